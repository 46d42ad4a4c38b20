-- 01 "Order of checks and numbers": the chunk at a place, whose header is judged by iff_header/specs/Checks, and the whole file.
use Rattle.std.specs.Prelude.{ℕ, zero, suc, ◌+◌, ◌-◌, ◌%◌, ◌≤◌, ◌<◌, List, ltb, length}
use Rattle.std.proofs.Math.Seq.{slice}
use Rattle.iff_name.specs.Name.{pick, version_name, kind_of}
use Rattle.iff_name.specs.declared.Kind.{Kind}
use Rattle.iff_rules.specs.declared.Position.{Position}
use Rattle.iff_rules.specs.declared.Position.TheVariants.{Outermost}
use Rattle.iff_header.specs.declared.Header.{Header}
use Rattle.iff_header.specs.declared.Header.TheVariants.{Leaf, Group}
use Rattle.iff_chunk.specs.Chunks.{Chunks, none, Chunk, a_leaf, a_group, before, count, word, next_at}
use Rattle.iff_rules.specs.Rules.{is_section, inside, after}
use Rattle.iff_header.specs.Checks.{header_of}
use Rattle.iff_refusal.specs.declared.Reason.TheVariants.{FileTooLong, NotIff, VersionName, TooDeep}
use Rattle.iff_refusal.specs.declared.Reason.{Reason}
use Rattle.iff_refusal.specs.Numbers.{Answer, refusing}
use Rattle.iff_tree.specs.declared.Accepted.{Accepted}
use Rattle.std.specs.Prelude.{Ok, Err, Result}

-- What reading finds: it is sound, or why it is refused and where.
pub data Found (A : Type 0) : Type 0 where
  found : A → Found A
  refused : Reason → ℕ → Found A

abbrev pub and_then : {A B : Type 0} → Found A → (A → Found B) → Found B
and_then (found a) f = f a
and_then (refused k p) f = refused k p

-- Whole chunks from p to e, each as `chunk` finds it; `fuel` bounds their number.
unfoldable pub run : (Position → ℕ → ℕ → Found Chunk) → List ℕ → ℕ → Position → ℕ → ℕ → Found Chunks
run chunk s zero w p e = found none
run chunk s (suc fuel) w p e =
    pick (ltb p e)
    (and_then (chunk w p e) (λ c. and_then (run chunk s fuel (after w (kind_of (word s p))) (next_at s p) e) (λ F. found (before c F))))
    (found none)

-- The chunk whose header at p is h, where `members` finds the members of a group.
abbrev pub by_header : Result Header Reason → List ℕ → ℕ → (Kind → ℕ → Found Chunks) → Found Chunk
by_header (Err k) s p members = refused k p
by_header (Ok (Leaf z)) s p members = found (a_leaf (word s p) (slice (p + 8) (p + 8 + z) s) (slice (p + 8 + z) (p + 8 + z + z % 2) s))
by_header (Ok (Group k z)) s p members = and_then (members k z) (λ G. found (a_group (word s p) (word s (p + 8)) G))

-- The chunk at p, where `levels` more levels of groups may be opened.
unfoldable pub chunk_at : ℕ → List ℕ → ℕ → Position → ℕ → ℕ → Found Chunk
chunk_at zero s from w p e = by_header (header_of 0 s from w p e) s p (λ k z. refused TooDeep p)
chunk_at (suc levels) s from w p e =
    by_header (header_of (suc levels) s from w p e) s p
    (λ k z. run (chunk_at levels s (p + 12)) s (p + 8 + z - (p + 12)) (inside k) (p + 12) (p + 8 + z))

-- The members of a group, from p to e.
abbrev pub members_of : ℕ → List ℕ → ℕ → Position → ℕ → ℕ → Found Chunks
members_of levels s from w p e = run (chunk_at levels s from) s (e - p) w p e

-- The file: "First 1 (file longer than 16,777,216 bytes).", then "For the outermost only: fewer than four bytes is 2; a version
-- name is 3; any other name but FORM, LIST, "CAT " is 2.", then the outermost chunk, whose parent ends with the file.
unfoldable pub read_file : List ℕ → Found Chunk
read_file s =
    pick (ltb 16777216 (length s)) (refused FileTooLong 0)
    (pick (ltb (length s) 4) (refused NotIff 0)
    (pick (version_name (word s 0)) (refused VersionName 0)
    (pick (is_section (kind_of (word s 0))) (chunk_at 16 s 0 Outermost 0 (length s))
    (refused NotIff 0))))

-- "Acceptance returns chunk count, end of the outermost chunk, trailing count." "A refusal returns the number and p".
abbrev pub accepting : ℕ → ℕ → ℕ → Answer Accepted
accepting n e t = Ok (record { chunks = n; end = e; trailing = t })

abbrev pub verdict_of : List ℕ → Found Chunk → Answer Accepted
verdict_of s (found c) = accepting (count (before c none)) (next_at s 0) (length s - next_at s 0)
verdict_of s (refused k p) = refusing k p

abbrev pub check_of : List ℕ → Answer Accepted
check_of s = verdict_of s (read_file s)

-- What the walk over the bytes tells of a chunk at p, after n chunks: where the next one stands, how many chunks there are by then.
abbrev pub step_of : List ℕ → Position → ℕ → ℕ → Found Chunk → Answer (Position × ℕ × ℕ)
step_of s w p n (found c) = Ok ((after w (kind_of (word s p))), (n + count (before c none)), (next_at s p))
step_of s w p n (refused k q) = refusing k q

-- The same of all members of a group.
abbrev pub walked_of : ℕ → Found Chunks → Answer ℕ
walked_of n (found F) = Ok (n + count F)
walked_of n (refused k q) = refusing k q

-- A chunk ends after it begins, inside its parent, and there are no more chunks than bytes.
abbrev pub Ahead : ℕ → ℕ → Answer (Position × ℕ × ℕ) → Type 0
Ahead p e (Ok (w, n, q)) = (p < q) × (q ≤ e) × (n ≤ q)
Ahead p e (Err r) = Unit

abbrev pub Counted : ℕ → Answer ℕ → Type 0
Counted e (Ok n) = n ≤ e
Counted e (Err r) = Unit

-- The group of kind k and size z at p, where `levels` more levels may be opened inside it.
abbrev pub group_of : ℕ → List ℕ → ℕ → Kind → ℕ → Found Chunk
group_of levels s p k z =
    and_then (members_of levels s (p + 12) (inside k) (p + 12) (p + 8 + z)) (λ G. found (a_group (word s p) (word s (p + 8)) G))
