-- What is told of the check's answer, once its case is known.
use Rattle.std.specs.Prelude.{ℕ, ◌≡◌, Ok, Err}
use Rattle.std.proofs.Common.{sym, ◌∙◌}
use Rattle.iff_refusal.specs.declared.Refusal.{Refusal}
use Rattle.iff_refusal.specs.Numbers.{Answer, number_of}
use Rattle.iff_tree.specs.declared.Accepted.{Accepted}
use Rattle.export_file.specs.Numbers.{CheckNumbers, check_numbers}

module _ (x v : Answer Accepted) (a : v ≡ x) where
  pub check_accepted :
      (w : Accepted) → v ≡ Ok w →
      ◌≡◌ {A = CheckNumbers} (record { number = 0; place = 0; chunks = w.chunks; end = w.end; trailing = w.trailing }) (check_numbers x)
  check_accepted w b = rw (sym a ∙ b)

  pub check_refused :
      (r : Refusal) (n : ℕ) → v ≡ Err r → n ≡ number_of r.reason →
      ◌≡◌ {A = CheckNumbers} (record { number = n; place = r.place; chunks = 0; end = 0; trailing = 0 }) (check_numbers x)
  check_refused r n b e = rw (sym a ∙ b, e)
