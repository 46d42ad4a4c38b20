pub mod RefusalLaws
pub mod Laws
