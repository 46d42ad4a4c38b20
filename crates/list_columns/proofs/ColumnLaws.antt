-- A column is filled record by record: with the field of the next record at its place it is the column of one record more. One law for
-- every field.
use Prim.Native.Nat.{ℕ, zero, suc, ◌+◌}
use mathlib.Core.Path.{◌≡◌, refl, sym, ap, ◌∙◌}
use mathlib.Core.List.{List, [], ◌∷◌}
use native.Mathlib.Omega.{arith}
use native.Mathlib.Numerals.{add-one}
use lib.ListN.{take, set}
use Rattle.iff_chunk.specs.Chunks.{Chunk}
use Rattle.iff_tree.specs.Judge.{Found, found, refused, read_file}
use Rattle.list_spec.specs.declared.Record.{Record}
use Rattle.list_spec.specs.Records.{records_of, pick_record, record_in, record_of}
use Rattle.list_capacity.specs.Capacity.{records_in}
use Rattle.list_columns.specs.Columns.{record_number, level_of, kind_number_of, name_of, record_place, size_of, column}
use Rattle.std.specs.Prelude.{Ok}

module _ (f : Record → ℕ) where
  -- The first n records are put.
  abbrev pub partly : List ℕ → ℕ → List ℕ → List ℕ
  partly s n old = column f (take n (records_in (read_file s))) old

  one_more : (all : List Record) (n : ℕ) (r : Record) (old : List ℕ) → Ok r ≡ pick_record all n → set (column f (take n all) old) n (f r) ≡ column f (take (suc n) all) old
  unfolding column pick_record
  one_more [] n r old e = let z : ◌≡◌ {A = ℕ} 0 1 = cc in absurd (omega arith)
  one_more (x ∷ xs) zero r [] e = refl
  one_more (x ∷ xs) zero r (y ∷ old) e = let i : r ≡ x = cc in rw i
  one_more (x ∷ xs) (suc n) r [] e = refl
  one_more (x ∷ xs) (suc n) r (y ∷ old) e = ap (λ (l : List ℕ). f x ∷ l) (one_more xs n r old e)

  pub starts : (s : List ℕ) (old : List ℕ) → old ≡ partly s 0 old
  unfolding column
  starts s old = refl

  pub goes_on : (s : List ℕ) (n : ℕ) (r : Record) (old : List ℕ) → Ok r ≡ record_of s n → set (partly s n old) n (f r) ≡ partly s (n + 1) old
  goes_on s n r old e = go (read_file s) e ∙ ap (λ (k : ℕ). partly s k old) (sym (add-one n))
    where
      go : (x : Found Chunk) → Ok r ≡ record_in x n → set (column f (take n (records_in x)) old) n (f r) ≡ column f (take (suc n) (records_in x)) old
      go (found c) y = one_more (records_of c) n r old y
      go (refused k p) y = let z : ◌≡◌ {A = ℕ} 0 1 = cc in absurd (omega arith)

-- the columns, each partly filled
pub record Columns (s : List ℕ) (n : ℕ) (numbers₀ numbers levels₀ levels kinds₀ kinds names₀ names places₀ places sizes₀ sizes : List ℕ) : Type 0 where
  pub numbers_filled : numbers ≡ partly record_number s n numbers₀
  pub levels_filled : levels ≡ partly level_of s n levels₀
  pub kinds_filled : kinds ≡ partly kind_number_of s n kinds₀
  pub names_filled : names ≡ partly name_of s n names₀
  pub places_filled : places ≡ partly record_place s n places₀
  pub sizes_filled : sizes ≡ partly size_of s n sizes₀
