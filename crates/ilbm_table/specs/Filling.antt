-- The table of pictures while it is filled: a row for each picture in file order, as long as there is room.
use Rattle.std.specs.Prelude.{ℕ, ◌+◌, ◌-◌, ◌≤◌, ◌≡◌, List, [], ◌∷◌, ltb, length}
use Rattle.iff_name.specs.Name.{pick}
use Rattle.iff_chunk.specs.Chunks.{Chunks, group}
use Rattle.ilbm_spec.specs.Names.{is_picture}
use Rattle.ilbm_spec.specs.Contents.{Scope as Shares, scope_inside, Content, content_of, contents_from}
use Rattle.ilbm_spec.specs.Table.{picture_row, row_numbers, table_of, table_answer, table_after}
use Rattle.ilbm_members.specs.Members.{Holds}
use Rattle.ilbm_locate.specs.declared.Scope.{Scope}
use Rattle.ilbm_locate.specs.Scopes.{ScopeIs}
use Rattle.ilbm_locate.specs.Spots.{Opens, contents_here}
use Rattle.ilbm_table_row.specs.Put.{put_at}
use Rattle.iff_refusal.specs.Numbers.{Answer}

-- a table, and where its next row goes
pub record Filled : Type 0 where
  pub numbers : List ℕ
  pub next : ℕ

abbrev pub filled : List ℕ → ℕ → Filled
filled t n = record { numbers = t; next = n }

-- one picture more, if there is room for its row
unfoldable pub put_row : Content → Filled → Filled
put_row c x =
    pick (ltb (length x.numbers - x.next) 30) x
    (filled (put_at x.next (row_numbers (picture_row c)) x.numbers) (x.next + 30))

unfoldable pub put_rows : List Content → Filled → Filled
put_rows [] x = x
put_rows (c ∷ cs) x = put_rows cs (put_row c x)

-- the table is as long as before, and the next row begins in it
abbrev pub Keeps : List ℕ → List ℕ → ℕ → Type 0
Keeps t t' n' = (length t' ≡ length t) × (n' ≤ length t)

-- What the functions put, whatever chunks stand there and whatever scope c tells: the FORM at q,
pub record FillsForm (s : List ℕ) (q : ℕ) (c : Scope) (t : List ℕ) (n : ℕ) (t' : List ℕ) (n' : ℕ) : Type 0 where
  pub at : (G : Chunks) (scope : Shares) → Opens s q G → ScopeIs s c scope → filled t' n' ≡ put_row (content_of q G scope) (filled t n)

-- the group at q, if it is a picture,
pub record FillsOwn (s : List ℕ) (q e : ℕ) (c : Scope) (t : List ℕ) (n : ℕ) (t' : List ℕ) (n' : ℕ) : Type 0 where
  pub at :
      (k i : ℕ) (G F : Chunks) (R : List ℕ) (scope : Shares) → Holds s q e (group k i G F) R → ScopeIs s c scope →
      filled t' n' ≡ put_rows (pick (is_picture k i) (content_of q G scope ∷ []) []) (filled t n)

-- the pictures inside the group at q,
pub record FillsInside (s : List ℕ) (q e : ℕ) (c : Scope) (t : List ℕ) (n : ℕ) (t' : List ℕ) (n' : ℕ) : Type 0 where
  pub at :
      (k i : ℕ) (G F : Chunks) (R : List ℕ) (scope : Shares) → Holds s q e (group k i G F) R → ScopeIs s c scope →
      filled t' n' ≡ put_rows (contents_from (q + 12) (scope_inside k q G scope) G) (filled t n)

-- those in the first of some chunks,
pub record FillsChunk (s : List ℕ) (q e : ℕ) (c : Scope) (t : List ℕ) (n : ℕ) (t' : List ℕ) (n' : ℕ) : Type 0 where
  pub at :
      (F : Chunks) (R : List ℕ) (scope : Shares) → Holds s q e F R → ScopeIs s c scope →
      filled t' n' ≡ put_rows (contents_here q scope F) (filled t n)

-- and those in all of them
pub record FillsMembers (s : List ℕ) (p e : ℕ) (c : Scope) (t : List ℕ) (n : ℕ) (t' : List ℕ) (n' : ℕ) : Type 0 where
  pub at :
      (F : Chunks) (R : List ℕ) (scope : Shares) → Holds s p e F R → ScopeIs s c scope →
      filled t' n' ≡ put_rows (contents_from p scope F) (filled t n)

-- the answer, and what stands in the table afterwards
abbrev pub Answers : List ℕ → List ℕ → Answer ℕ → List ℕ → Type 0
Answers s t r t' = (r ≡ table_answer (table_of s (length t))) × (t' ≡ table_after (table_of s (length t)) t)
