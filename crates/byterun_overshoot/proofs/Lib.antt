pub mod Overshoot
