-- The table of a whole file: 13 where it has fewer places than there are pictures, and otherwise every row has room.
use Prim.Native.Nat.{ℕ, ◌/◌, ◌≤◌, ◌<◌}
use mathlib.Core.Path.{◌≡◌, refl, sym, ap, ◌∙◌}
use mathlib.Core.List.{List}
use lib.ListN.{length, drop}
use native.Mathlib.Omega.{arith}
use borrow.Author.Tests.{lt-ltb, le-ltb}
use Rattle.iff_chunk.specs.Chunks.{Chunk, before, none}
use Rattle.iff_tree.specs.Judge.{Found, found, refused, read_file, verdict_of, check_of}
use Rattle.iff_walk.specs.Coming.{Sound}
use Rattle.ilbm_spec.specs.Contents.{no_scope, Content, contents_of}
use Rattle.ilbm_spec.specs.Table.{picture_rows, rows_for, table_numbers}
use Rattle.ilbm_locate.specs.declared.Scope.{Scope}
use Rattle.ilbm_locate.specs.Scopes.{none_shared}
use Rattle.ilbm_locate.proofs.ScopeLaws.{none_scoped}
use Rattle.ilbm_find.proofs.ViewLaws.{sound_holds}
use Rattle.ilbm_count.specs.Count.{count_of, count_in}
use Rattle.ilbm_table_row.specs.Put.{put_at}
use Rattle.ilbm_table.specs.Filling.{Filled, FillsMembers, Answers}
use Rattle.ilbm_table.proofs.Room.{all_put, rows_count}
use Rattle.iff_refusal.specs.declared.Reason.TheVariants.{TableTooShort}
use Rattle.iff_refusal.specs.declared.Refusal.{Refusal}
use Rattle.iff_refusal.specs.Numbers.{Answer, refusing}
use Rattle.iff_tree.specs.declared.Accepted.{Accepted}
use Rattle.std.specs.Prelude.{Ok, Err}

module _ (s : List ℕ) (e : ℕ) (f : Sound s e) (n : ℕ) (i : Ok n ≡ count_of s) (t : List ℕ) where
  abbrev contents : List Content
  contents = contents_of f.chunk

  counted : n ≡ length contents
  counted = let z : Ok n ≡ Ok (length contents) = i ∙ ap count_in f.read in cc

  pub too_few : length t / 30 < n → Answers s t (refusing TableTooShort 0) t
  too_few l = rw (f.read, lt-ltb (length t / 30) (length contents) (omega (arith, counted))) (refl, refl)

  pub all_filled :
      (c : Scope) (t₁ : List ℕ) (m : ℕ) → n ≤ length t / 30 → c ≡ none_shared → FillsMembers s 0 e c t 0 t₁ m → Answers s t (Ok n) t₁
  unfolding put_at
  all_filled c t₁ m l j w =
      let k = counted in
      let put = w.at (before f.chunk none) (drop e s) no_scope (sound_holds s e f) (rw j (none_scoped s)) in
      let all = all_put contents t 0 (omega arith) in
      let is : t₁ ≡ put_at 0 (table_numbers (picture_rows contents)) t = ap (λ (x : Filled). x.numbers) (put ∙ all) in
      rw (f.read, le-ltb (length t / 30) (length contents) (omega arith)) (ap Ok (k ∙ sym (rows_count contents)), is)

refused_table : (s : List ℕ) (room : ℕ) (x : Found Chunk) (r : Refusal) → Err r ≡ verdict_of s x → rows_for room x ≡ refused r.reason r.place
refused_table s room (found c) r e = absurd (let z : ◌≡◌ {A = ℕ} 0 1 = cc in omega arith)
refused_table s room (refused a b) r e = cc

pub file_refused : (s t : List ℕ) (v : Answer Accepted) (r : Refusal) → v ≡ check_of s → v ≡ Err r → Answers s t (Err r) t
file_refused s t v r a b = rw (refused_table s (length t) (read_file s) r (sym b ∙ a)) (refl, refl)
