-- A file that is a sound one up to a header m, where a version name stands, is refused for it at m: every chunk before m passes
-- all tests, since these look at bytes before m only, and each group around m is opened.
use Prim.Native.Nat.{ℕ, zero, suc, ◌+◌, ◌-◌, ◌%◌, ◌≤◌, ◌<◌}
use Rattle.std.specs.Prelude.{◌≡◌, refl, true, take, Ok, Err}
use Rattle.std.proofs.Common.{sym, ap, ap₂, ◌∙◌}
use Rattle.std.proofs.Math.Path.{subst, subst₂}
use Rattle.std.proofs.Math.Bool.{false}
use mathlib.Core.List.{List, [], ◌++◌}
use native.Mathlib.Omega.{arith}
use Rattle.std.proofs.Math.ListN.{length, drop}
use Rattle.std.proofs.Math.Seq.{slice}
use borrow.Author.Tests.{lt-ltb, le-ltb, not-true}
use Rattle.iff_name.specs.Name.{version_name, kind_of}
use Rattle.iff_name.specs.declared.Kind.{Kind}
use Rattle.iff_rules.specs.declared.Position.{Position}
use Rattle.iff_rules.specs.declared.Position.TheVariants.{Outermost}
use Rattle.iff_header.specs.declared.Header.TheVariants.{Leaf, Group}
use Rattle.iff_chunk.specs.Chunks.{Chunks, none, leaf, group, Chunk, a_leaf, a_group, bytes, word, next_at}
use Rattle.iff_rules.specs.Rules.{inside, after, second_prop}
use Rattle.iff_header.specs.Checks.{header_of}
use Rattle.iff_tree.specs.Judge.{Found, found, refused, run, chunk_at, read_file, verdict_of}
use Rattle.iff_grammar.specs.Grammar.{seen_after, Members, height, ChunkFile}
use Rattle.iff_grammar.proofs.laws.Words.{drop_slice, slice_at}
use Rattle.iff_grammar.proofs.laws.Read.{leaf_name, leaf_size, leaf_next, leaf_rest, length_leaf, length_group, group_name, group_size}
use Rattle.iff_grammar.proofs.laws.Read.{group_type_lem, group_members, group_next, group_rest, group_fits}
use Rattle.iff_grammar.proofs.laws.Names.{members_regular, name_parts, group_chunk_name, after_leaf, seen_leaf}
use Rattle.iff_grammar.proofs.laws.Props.{Seen, seen_start, seen_step}
use Rattle.iff_grammar.proofs.laws.Headers.{header_leaf, header_group, new_second}
use Rattle.iff_grammar.proofs.laws.Complete.{group_complete, run_complete}
use Rattle.ilbm_spec.specs.Pictures.{view_in, picture_answer}
use Rattle.ilbm_spec.specs.Palette.{answer_in, extent_in}
use Rattle.ilbm_spec.specs.Rows.{line_read, frame_read}
use Rattle.ilbm_spec.specs.Shapes.{shape_line_read, shape_frame_read}
use Rattle.ilbm_spec.specs.Colours.{colour_line_read, colour_frame_read}
use Rattle.ilbm_spec.specs.Triples.{triples_in}
use Rattle.ilbm_spec.specs.Table.{rows_for}
use Rattle.theorem_additions.specs.Statement.{line_told, frame_told, shape_line_told, shape_frame_told, table_told, AllRefused}
use Rattle.theorem_additions.proofs.laws.Bytes.{pass}
use Rattle.theorem_additions.proofs.laws.Places.{HeaderAt, none_case, leaf_cases, group_cases, header_low}
use Rattle.theorem_additions.proofs.laws.Renamed.{version_formed, same_word, same_front}
use Rattle.iff_refusal.specs.declared.Reason.TheVariants.{VersionName}
use Rattle.iff_refusal.specs.declared.Reason.{Reason}

run_stops : (chunk : Position → ℕ → ℕ → Found Chunk) (s : List ℕ) (fuel : ℕ) (w : Position) (p e : ℕ) (k : Reason) (m : ℕ)
    → p < e → chunk w p e ≡ refused k m → run chunk s (suc fuel) w p e ≡ refused k m
unfolding run
run_stops chunk s fuel w p e k m l h = rw (lt-ltb p e l, h)

run_on : (chunk : Position → ℕ → ℕ → Found Chunk) (s : List ℕ) (fuel : ℕ) (w w' : Position) (p q e : ℕ) (k : Reason) (m : ℕ) (c : Chunk)
    → p < e → chunk w p e ≡ found c → after w (kind_of (word s p)) ≡ w' → next_at s p ≡ q → run chunk s fuel w' q e ≡ refused k m
    → run chunk s (suc fuel) w p e ≡ refused k m
unfolding run
run_on chunk s fuel w w' p q e k m c l h a n r = rw (lt-ltb p e l, h, a, n, r)

leaf_found : (levels : ℕ) (s : List ℕ) (from : ℕ) (w : Position) (p e z : ℕ) → header_of levels s from w p e ≡ Ok (Leaf z)
    → chunk_at levels s from w p e ≡ found (a_leaf (word s p) (slice (p + 8) (p + 8 + z) s) (slice (p + 8 + z) (p + 8 + z + z % 2) s))
unfolding chunk_at
leaf_found zero s from w p e z h = rw h
leaf_found (suc levels) s from w p e z h = rw h

bad_found : (levels : ℕ) (s : List ℕ) (from : ℕ) (w : Position) (p e : ℕ) (k : Reason) → header_of levels s from w p e ≡ Err k →
    chunk_at levels s from w p e ≡ refused k p
unfolding chunk_at
bad_found zero s from w p e k h = rw h
bad_found (suc levels) s from w p e k h = rw h

group_stops : (levels : ℕ) (s : List ℕ) (from : ℕ) (w : Position) (p e : ℕ) (k : Kind) (z : ℕ) (n : Reason) (m : ℕ) →
    header_of (suc levels) s from w p e ≡ Ok (Group k z)
    → run (chunk_at levels s (p + 12)) s (p + 8 + z - (p + 12)) (inside k) (p + 12) (p + 8 + z) ≡ refused n m
    → chunk_at (suc levels) s from w p e ≡ refused n m
unfolding chunk_at
group_stops levels s from w p e k z n m h r = rw (h, r)

version_header : (levels : ℕ) (s : List ℕ) (from : ℕ) (w : Position) (p e : ℕ) → p + 8 ≤ e → version_name (word s p) ≡ true →
    header_of levels s from w p e ≡ Err VersionName
unfolding header_of
version_header levels s from w p e h v = rw (le-ltb (e - p) 8 (omega arith), version_formed (word s p) v, v)

-- s is the sound file, g the one with a version name at m
module _ (s g : List ℕ) (m : ℕ) (same : take m g ≡ take m s) (version : version_name (word g m) ≡ true)
    (short : length s ≤ 16777216) (short' : length g ≤ 16777216) where
  agree : (xs ys : List ℕ) (p : ℕ) → drop p s ≡ xs ++ ys → p + length xs ≤ m → drop p g ≡ xs ++ drop (p + length xs) g
  agree xs ys p e h =
      let q : ℕ = p + length xs in
      let part : slice p q g ≡ xs = ap (λ (l : List ℕ). drop p l) (same_front s g m q same h) ∙ slice_at s xs ys p q e refl in
      drop_slice g p q (omega arith) ∙ ap (λ (l : List ℕ). l ++ drop q g) part

  there : (levels from : ℕ) (w : Position) (p e : ℕ) → p ≡ m → p + 8 ≤ e → chunk_at levels g from w p e ≡ refused VersionName m
  there levels from w p e i h =
      let v : version_name (word g p) ≡ true = subst (λ (q : ℕ). version_name (word g q) ≡ true) (sym i) version in
      bad_found levels g from w p e VersionName (version_header levels g from w p e h v) ∙ ap (refused VersionName) i

  opened :
      (levels from : ℕ) (w : Position) (p e : ℕ) (seen : List ℕ) (n t : ℕ) (G F : Chunks) (R : List ℕ) →
      Members w seen (group n t G F) → drop p s ≡ bytes (group n t G F) ++ R → p + 12 ≤ m → p + 12 + length (bytes G) ≤ e →
      Seen g from p seen → header_of (suc levels) g from w p e ≡ Ok (Group (kind_of n) (4 + length (bytes G)))
  opened levels from w p e seen n t G F R x at l fit h =
      let r = members_regular w seen (group n t G F) x in
      let name : word g p ≡ n = same_word s g m p same (omega arith) ∙ group_name s p n t G F R r short at in
      let size : word g (p + 4) ≡ 4 + length (bytes G) = same_word s g m (p + 4) same (omega arith) ∙ group_size s p n t G F R r short at in
      let type : word g (p + 8) ≡ t = same_word s g m (p + 8) same (omega arith) ∙ group_type_lem s p n t G F R r short at in
      let next : next_at g p ≡ p + 12 + length (bytes G) = rw (
        size,
        ← group_size s p n t G F R r short at,
      ) (group_next s p n t G F R r short at) in
      let four : 4 ≤ word g (p + 4) = omega arith in
      let first : second_prop (kind_of n) g from p t ≡ false = not-true _ (sym (new_second (kind_of n) g from p t seen h) ∙ x.3) in
      header_group levels g from w p e (rw name (group_chunk_name n x.0)) (rw name x.1) (rw next fit) (rw name x.0) four (rw (name, type) x.2) (rw (name, type) first)
      ∙ ap₂ (λ (k : Kind) (z : ℕ). Ok (Group k z)) (ap kind_of name) size

  -- a group before m is found, and the run goes on behind it
  passed :
      (levels from : ℕ) (w : Position) (p e fuel : ℕ) (seen : List ℕ) (n t : ℕ) (G F : Chunks) (R : List ℕ) →
      Members w seen (group n t G F) → height G ≤ levels → drop p s ≡ bytes (group n t G F) ++ R → p + (12 + length (bytes G)) ≤ m →
      Seen g from p seen → p + (12 + length (bytes G)) ≤ e →
      (Members (after w (kind_of n)) (seen_after (kind_of n) t seen) F →
      Seen g from (p + (12 + length (bytes G))) (seen_after (kind_of n) t seen)
      → run (chunk_at (suc levels) g from) g fuel (after w (kind_of n)) (p + (12 + length (bytes G))) e ≡ refused VersionName m) →
      run (chunk_at (suc levels) g from) g (suc fuel) w p e ≡ refused VersionName m
  unfolding bytes
  passed levels from w p e fuel seen n t G F R x l at before-m h fit rest =
      let one : Members w seen (group n t G none) = (x.0, x.1, x.2, x.3, x.4, tt) in
      let r = members_regular w seen (group n t G none) one in
      let c : ℕ = p + 12 in
      let q : ℕ = p + (12 + length (bytes G)) in
      let to : ℕ = p + 8 + (4 + length (bytes G)) in
      let len = length_group n t G none in
      let cut = pass [] (a_group n t G) F R in
      let at' : drop p g ≡ bytes (group n t G none) ++ drop (p + length (bytes (group n t G none))) g =
      agree (bytes (group n t G none)) (bytes F ++ R) p (at ∙ cut) (omega arith) in
      let R' : List ℕ = drop (p + length (bytes (group n t G none))) g in
      let name : word g p ≡ n = group_name g p n t G none R' r short' at' in
      let type : word g (p + 8) ≡ t = group_type_lem g p n t G none R' r short' at' in
      let next : next_at g p ≡ q = group_next g p n t G none R' r short' at' ∙ omega arith in
      let body = group_members g p n t G none R' r short' at' in
      let inner = run_complete G levels g c (inside (kind_of n)) c to (to - c) [] (bytes none ++ R') x.4 l short' body (omega arith) (omega arith) (seen_start g c) in
      let found_it = group_complete levels g from w p e seen n t G none R' one short' at' (omega arith) h inner in
      let seen' : List ℕ = seen_after (kind_of n) t seen in
      let same_seen : seen_after (kind_of (word g p)) (word g (p + 8)) seen ≡ seen' = rw (name, type) in
      let on : Seen g from q seen' = subst₂ (λ (j : ℕ) (u : List ℕ). Seen g from j u) next same_seen (seen_step g from p seen h) in
      let pos : after w (kind_of (word g p)) ≡ after w (kind_of n) = rw name in
      run_on (chunk_at (suc levels) g from) g fuel w (after w (kind_of n)) p q e VersionName m _ (omega arith) found_it pos next (rest x.5 on)

  run_refused :
      (F : Chunks) (levels from : ℕ) (w : Position) (p e fuel : ℕ) (seen R : List ℕ) →
      Members w seen F → height F ≤ levels → drop p s ≡ bytes F ++ R → p + length (bytes F) ≡ e → length (bytes F) ≤ fuel →
      Seen g from p seen → HeaderAt m p F → run (chunk_at levels g from) g fuel w p e ≡ refused VersionName m
  unfolding bytes
  run_refused none levels from w p e fuel seen R x l at to f h k = none_case m p k
  run_refused (leaf n d pd F) levels from w p e zero seen R x l at to f h k = absurd (omega (arith, length_leaf n d pd F))
  run_refused (leaf n d pd F) levels from w p e (suc fuel) seen R x l at to f h k =
      let r = members_regular w seen (leaf n d pd F) x in
      let len = length_leaf n d pd F in
      let q : ℕ = p + (8 + length d + length pd) in
      leaf_cases m p n d pd F k (λ i. run_stops (chunk_at levels g from) g fuel w p e VersionName m (omega arith) (there levels from w p e i (omega arith)))
      (λ i.
      let low = header_low F m q i in
      let name : word g p ≡ n = same_word s g m p same (omega arith) ∙ leaf_name s p n d pd F R r short at in
      let size : word g (p + 4) ≡ length d = same_word s g m (p + 4) same (omega arith) ∙ leaf_size s p n d pd F R r short at in
      let pad = x.3 in
      let next : next_at g p ≡ q = rw size (omega arith) in
      let head = header_leaf levels g from w p e (rw name x.0) (rw name x.2) (rw next (omega arith)) (rw name x.1) in
      let one = leaf_found levels g from w p e (word g (p + 4)) head in
      let pos : after w (kind_of (word g p)) ≡ w = rw name (after_leaf w (kind_of n) x.1) in
      let same_seen : seen_after (kind_of (word g p)) (word g (p + 8)) seen ≡ seen =
      rw name (seen_leaf (kind_of n) (word g (p + 8)) seen x.1) in
      let on : Seen g from q seen = subst₂ (λ (j : ℕ) (u : List ℕ). Seen g from j u) next same_seen (seen_step g from p seen h) in
      let next' : next_at s p ≡ q = leaf_next s p n d pd F R r short at ∙ omega arith in
      let rest : drop q s ≡ bytes F ++ R = subst (λ (j : ℕ). drop j s ≡ bytes F ++ R) next' (leaf_rest s p n d pd F R r short at) in
      run_on (chunk_at levels g from) g fuel w w p q e VersionName m _ (omega arith) one pos next
      (run_refused F levels from w q e fuel seen R x.4 l rest (omega arith) (omega arith) on i))
  run_refused (group n t G F) levels from w p e zero seen R x l at to f h k = absurd (omega (arith, length_group n t G F))
  run_refused (group n t G F) zero from w p e (suc fuel) seen R x l at to f h k = absurd (omega arith)
  run_refused (group n t G F) (suc levels) from w p e (suc fuel) seen R x l at to f h k =
      let r = members_regular w seen (group n t G F) x in
      let len = length_group n t G F in
      let q : ℕ = p + (12 + length (bytes G)) in
      let c : ℕ = p + 12 in
      let z : ℕ = 4 + length (bytes G) in
      let body = group_members s p n t G F R r short at in
      group_cases m p n t G F k
      (λ i. run_stops (chunk_at (suc levels) g from) g fuel w p e VersionName m (omega arith) (there (suc levels) from w p e i (omega arith)))
      (λ i.
      let low = header_low G m c i in
      let head = opened levels from w p e seen n t G F R x at low (omega arith) h in
      let inner = run_refused G levels c (inside (kind_of n)) c (p + 8 + z) (p + 8 + z - c) [] (bytes F ++ R) x.4 (omega arith) body (omega arith) (omega arith) (seen_start g c) i in
      run_stops (chunk_at (suc levels) g from) g fuel w p e VersionName m (omega arith) (group_stops levels g from w p e (kind_of n) z VersionName m head inner))
      (λ i.
      let low = header_low F m q i in
      passed levels from w p e fuel seen n t G F R x (omega arith) at (omega arith) h (omega arith)
      (λ x' on.
      let next' : next_at s p ≡ q = group_next s p n t G F R r short at ∙ omega arith in
      let rest : drop q s ≡ bytes F ++ R = subst (λ (j : ℕ). drop j s ≡ bytes F ++ R) next' (group_rest s p n t G F R r short at) in
      run_refused F (suc levels) from (after w (kind_of n)) q e fuel (seen_after (kind_of n) t seen) R x' (omega arith) rest (omega arith) (omega arith) on i))

  pub file_refused : (n t : ℕ) (G : Chunks) (R : List ℕ) → ChunkFile s (a_group n t G) R → HeaderAt m 12 G → length g ≡ length s →
      read_file g ≡ refused VersionName m
  unfolding read_file
  file_refused n t G R f k same_length =
      let x = f.tree in
      let r = members_regular Outermost [] (group n t G none) x in
      let low = header_low G m 12 k in
      let fit = group_fits s 0 n t G none R r short f.whole in
      let name : word g 0 ≡ n = same_word s g m 0 same (omega arith) ∙ group_name s 0 n t G none R r short f.whole in
      let not-version : version_name n ≡ false = (name_parts n (group_chunk_name n x.0)).1 in
      let deep : height G ≤ 15 = omega (arith, f.nesting) in
      let z : ℕ = 4 + length (bytes G) in
      let head = opened 15 0 Outermost 0 (length g) [] n t G none R x f.whole low (omega arith) (seen_start g 0) in
      let body = group_members s 0 n t G none R r short f.whole in
      let inner = run_refused G 15 12 (inside (kind_of n)) 12 (8 + z) (8 + z - 12) [] (bytes none ++ R) x.4 deep body (omega arith) (omega arith) (seen_start g 12) k in
      let chunk = group_stops 15 g 0 Outermost 0 (length g) (kind_of n) z VersionName m head inner in
      rw (le-ltb 16777216 (length g) short', le-ltb (length g) 4 (omega arith), name, not-version, x.1, chunk)

-- a file that is refused gives its refusal to every call
pub all_refused : (g : List ℕ) (p : ℕ) → read_file g ≡ refused VersionName p → AllRefused g p
all_refused g p e = record {
  check = ap (verdict_of g) e;
  views = λ i. ap (λ (r : Found Chunk). view_in r i) e;
  pictures = λ i. ap (λ (r : Found Chunk). picture_answer (view_in r i)) e;
  palettes = λ i default. ap (λ (r : Found Chunk). answer_in (view_in r i) default) e;
  extents = λ i. ap (λ (r : Found Chunk). extent_in (view_in r i)) e;
  lines = λ i start row. ap (λ (r : Found Chunk). line_told (line_read (view_in r i) start (length row)) row) e;
  frames = λ i frame. ap (λ (r : Found Chunk). frame_told (frame_read (view_in r i) (length frame)) frame) e;
  shape_lines = λ i start row shape.
      ap (λ (r : Found Chunk). shape_line_told (shape_line_read (view_in r i) start (length row) (length shape)) row shape) e;
  shape_frames = λ i frame shape.
      ap (λ (r : Found Chunk). shape_frame_told (shape_frame_read (view_in r i) (length frame) (length shape)) frame shape) e;
  colour_lines = λ i default start row.
      ap (λ (r : Found Chunk). line_told (colour_line_read (view_in r i) default start (length row)) row) e;
  colour_frames = λ i default frame. ap (λ (r : Found Chunk). frame_told (colour_frame_read (view_in r i) default (length frame)) frame) e;
  triples = λ i default. ap (λ (r : Found Chunk). triples_in (view_in r i) default) e;
  tables = λ table. ap (λ (r : Found Chunk). table_told (rows_for (length table) r) table) e;
}
