-- A row of the table of pictures, put into it number by number, from the parts of the file that hold a picture's content.
use Rattle.std.specs.Prelude.{ℕ, zero, suc, ◌≡◌, List, [], ◌∷◌, ◌++◌, length, drop}
use Rattle.iff_chunk.specs.Chunks.{Chunks}
use Rattle.ilbm_spec.specs.declared.Origin.TheVariants.{Absent}
use Rattle.ilbm_spec.specs.Contents.{Scope as Shares, content_of}
use Rattle.ilbm_spec.specs.Table.{origin_number, shared_place, picture_row, row_numbers}
use Rattle.ilbm_locate.specs.declared.Scope.{Scope}
use Rattle.ilbm_locate.specs.Scopes.{ScopeIs}
use Rattle.ilbm_locate.specs.Spots.{Opens}
use Rattle.ilbm_content.specs.declared.Held.{Held}
use Rattle.ilbm_content.specs.declared.Contents.{Contents}
use Rattle.ilbm_numbers.specs.Parts.{from_of, to_of}
use Rattle.std.specs.Prelude.{Some, None, Option}

-- a table after numbers are put into it from a place on, and what was there before them and behind them
unfoldable pub put_at : ℕ → List ℕ → List ℕ → List ℕ
put_at zero xs t = xs ++ drop (length xs) t
put_at (suc n) xs [] = []
put_at (suc n) xs (y ∷ t) = y ∷ put_at n xs t

-- the numbers of a property and of the BODY
abbrev pub held_numbers : Held → List ℕ
held_numbers h = origin_number h.origin ∷ shared_place h.origin ∷ from_of h.part ∷ to_of h.part ∷ []

abbrev pub there_of : Option (ℕ × ℕ) → ℕ
there_of None = 0
there_of (Some (a, b)) = 1

abbrev pub part_numbers : Option (ℕ × ℕ) → List ℕ
part_numbers p = there_of p ∷ from_of p ∷ to_of p ∷ []

abbrev pub parts_numbers : Contents → List ℕ
parts_numbers c =
    held_numbers c.bmhd ++
    (held_numbers c.cmap ++
    (held_numbers c.grab ++
    (held_numbers c.dest ++
    (held_numbers c.sprt ++
    (held_numbers c.camg ++ part_numbers c.body)))))

abbrev pub nothing_held : Held
nothing_held = record { part = None; origin = Absent }

abbrev pub no_parts : Contents
no_parts =
    record {
      bmhd = nothing_held;
      cmap = nothing_held;
      grab = nothing_held;
      dest = nothing_held;
      sprt = nothing_held;
      camg = nothing_held;
      bodies = 0;
      body = None;
    }

-- the row of the picture in the FORM at a place is put into the table
pub record PutsPicture (s : List ℕ) (form : ℕ) (c : Scope) (k : ℕ) (t t' : List ℕ) : Type 0 where
  pub at : (G : Chunks) (scope : Shares) → Opens s form G → ScopeIs s c scope →
      t' ≡ put_at k (row_numbers (picture_row (content_of form G scope))) t
