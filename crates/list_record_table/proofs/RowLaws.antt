-- A table is filled record by record: with the next record at its place it is the table of one record more.
use Prim.Native.Nat.{ℕ, zero, suc, ◌+◌}
use mathlib.Core.Path.{◌≡◌, refl, sym, ap, ◌∙◌}
use mathlib.Core.List.{List, [], ◌∷◌}
use native.Mathlib.Omega.{arith}
use native.Mathlib.Numerals.{add-one}
use lib.ListN.{take, set}
use Rattle.iff_chunk.specs.Chunks.{Chunk}
use Rattle.iff_tree.specs.Judge.{Found, found, refused, read_file}
use Rattle.list_spec.specs.declared.Record.{Record}
use Rattle.list_spec.specs.Records.{records_of, pick_record, record_in, record_of}
use Rattle.list_capacity.specs.Capacity.{records_in}
use Rattle.list_record_table.specs.Rows.{placed}
use Rattle.std.specs.Prelude.{Ok}

one_more : (all : List Record) (n : ℕ) (r : Record) (old : List Record) → Ok r ≡ pick_record all n → set (placed (take n all) old) n r ≡ placed (take (suc n) all) old
unfolding placed pick_record
one_more [] n r old e = let z : ◌≡◌ {A = ℕ} 0 1 = cc in absurd (omega arith)
one_more (x ∷ xs) zero r [] e = refl
one_more (x ∷ xs) zero r (y ∷ old) e = let i : r ≡ x = cc in rw i
one_more (x ∷ xs) (suc n) r [] e = refl
one_more (x ∷ xs) (suc n) r (y ∷ old) e = ap (λ (l : List Record). x ∷ l) (one_more xs n r old e)

-- The first n records of a file are put.
abbrev pub partly : List ℕ → ℕ → List Record → List Record
partly s n old = placed (take n (records_in (read_file s))) old

pub goes_on : (s : List ℕ) (n : ℕ) (r : Record) (old : List Record) → Ok r ≡ record_of s n → set (partly s n old) n r ≡ partly s (n + 1) old
goes_on s n r old e = go (read_file s) e ∙ ap (λ (k : ℕ). partly s k old) (sym (add-one n))
  where
    go : (x : Found Chunk) → Ok r ≡ record_in x n → set (placed (take n (records_in x)) old) n r ≡ placed (take (suc n) (records_in x)) old
    go (found c) y = one_more (records_of c) n r old y
    go (refused k p) y = let z : ◌≡◌ {A = ℕ} 0 1 = cc in absurd (omega arith)

pub starts : (s : List ℕ) (old : List Record) → old ≡ partly s 0 old
unfolding placed
starts s old = refl
