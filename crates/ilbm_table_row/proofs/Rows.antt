-- A row is put part by part, each behind the one before. The parts of the file that hold a picture's content have the numbers of its row;
-- beside a refusal nothing is held, and every number is 0.
use Prim.Native.Nat.{ℕ, ◌+◌, ◌≤◌}
use mathlib.Core.Path.{◌≡◌, refl, ap, ap₂, ◌∙◌}
use mathlib.Core.List.{List, [], ◌∷◌, ◌++◌}
use lib.ListN.{length}
use native.Mathlib.Omega.{arith}
use Rattle.iff_chunk.specs.Chunks.{Chunks}
use Rattle.iff_tree.specs.Judge.{found, refused}
use Rattle.ilbm_spec.specs.declared.BitmapHeader.{BitmapHeader}
use Rattle.ilbm_spec.specs.Names.{ILBM}
use Rattle.ilbm_spec.specs.Contents.{Located, Property, Scope as Shares, Content, content_of}
use Rattle.ilbm_spec.specs.Pictures.{picture_refusal, passing, judged}
use Rattle.ilbm_spec.specs.Table.{origin_number, shared_place, property_row, body_row, picture_row, property_numbers, body_numbers, row_numbers}
use Rattle.ilbm_members.specs.Gathers.{first_of}
use Rattle.ilbm_locate.specs.declared.Scope.{Scope}
use Rattle.ilbm_locate.specs.Scopes.{ScopeIs}
use Rattle.ilbm_locate.specs.Spots.{Opens}
use Rattle.ilbm_content.specs.declared.Held.{Held}
use Rattle.ilbm_content.specs.declared.Contents.{Contents}
use Rattle.ilbm_content.specs.Held.{Shows, HeldIs, ContentsAre}
use Rattle.ilbm_content.proofs.Laws.{origin_is}
use Rattle.ilbm_numbers.specs.Parts.{from_of, to_of}
use Rattle.ilbm_numbers.proofs.Laws.{part_extent, held_extent}
use Rattle.ilbm_find.specs.Seen.{ViewIs, FormView}
use Rattle.ilbm_table_row.specs.Put.{put_at, held_numbers, there_of, part_numbers, parts_numbers, no_parts, PutsPicture}
use Rattle.ilbm_table_row.proofs.Put.{put_more}
use Rattle.iff_refusal.specs.declared.Reason.{Reason}
use Rattle.iff_refusal.specs.declared.Refusal.{Refusal}
use Rattle.iff_refusal.specs.Numbers.{number_of, Answer}
use Rattle.std.specs.Prelude.{Result, Ok, Err, Some, None, Option}

-- what is put behind numbers just put
then_put :
    (at m : ℕ) (xs ys t t₁ t₂ : List ℕ) → m ≡ at + length xs → m ≤ length t → t₁ ≡ put_at at xs t → t₂ ≡ put_at m ys t₁ →
    t₂ ≡ put_at at (xs ++ ys) t
then_put at m xs ys t t₁ t₂ e l i j = rw i at j ∙ put_more at m xs ys t e (omega arith)

module _ (at : ℕ) (t t₁ : List ℕ) where
  pub property_put :
      (h : Held) (a b c d : ℕ) → a ≡ origin_number h.origin → b ≡ shared_place h.origin → c ≡ from_of h.part → d ≡ to_of h.part →
      t₁ ≡ put_at at (a ∷ b ∷ c ∷ d ∷ []) t → t₁ ≡ put_at at (held_numbers h) t
  property_put h a b c d i j k l e = rw (← i, ← j, ← k, ← l) e

  pub body_put :
      (p : Option (ℕ × ℕ)) (a b c : ℕ) → a ≡ there_of p → b ≡ from_of p → c ≡ to_of p → t₁ ≡ put_at at (a ∷ b ∷ c ∷ []) t →
      t₁ ≡ put_at at (part_numbers p) t
  body_put p a b c i j k e = rw (← i, ← j, ← k) e

  pub two_put :
      (h k : Held) (t₂ : List ℕ) → at + 8 ≤ length t → t₁ ≡ put_at at (held_numbers h) t → t₂ ≡ put_at (at + 4) (held_numbers k) t₁ →
      t₂ ≡ put_at at (held_numbers h ++ held_numbers k) t
  two_put h k t₂ l i j = then_put at (at + 4) (held_numbers h) (held_numbers k) t t₁ t₂ refl (omega arith) i j

  pub parts_put :
      (c : Contents) (t₂ t₃ t₄ : List ℕ) → at + 27 ≤ length t → t₁ ≡ put_at at (held_numbers c.bmhd ++ held_numbers c.cmap) t →
      t₂ ≡ put_at (at + 8) (held_numbers c.grab ++ held_numbers c.dest) t₁ →
      t₃ ≡ put_at (at + 16) (held_numbers c.sprt ++ held_numbers c.camg) t₂ → t₄ ≡ put_at (at + 24) (part_numbers c.body) t₃ →
      t₄ ≡ put_at at (parts_numbers c) t
  parts_put c t₂ t₃ t₄ l i j k m =
      let two = then_put at (at + 8) _ _ t t₁ t₂ refl (omega arith) i j in
      let three = then_put at (at + 16) _ _ t t₂ t₃ refl (omega arith) two k in
      then_put at (at + 24) _ _ t t₃ t₄ refl (omega arith) three m

  pub row_put :
      (n form k : ℕ) (c : Contents) (t₂ : List ℕ) → k ≡ ILBM → at + 30 ≤ length t → t₁ ≡ put_at at (n ∷ form ∷ k ∷ []) t →
      t₂ ≡ put_at (at + 3) (parts_numbers c) t₁ → t₂ ≡ put_at at ((n ∷ form ∷ ILBM ∷ []) ++ parts_numbers c) t
  row_put n form k c t₂ e l i j = rw e at (then_put at (at + 3) (n ∷ form ∷ k ∷ []) (parts_numbers c) t t₁ t₂ refl (omega arith) i j)

-- the numbers of the parts are those of the content
held_numbers_lem : (s : List ℕ) (h : Held) (q : Property) → HeldIs s h q → held_numbers h ≡ property_numbers (property_row q)
held_numbers_lem s h q k = let e = held_extent s h q k in rw (origin_is s h q k, e.0, e.1)

body_numbers_lem : (s : List ℕ) (p : Option (ℕ × ℕ)) (bodies : List Located) → Shows s p (first_of bodies) → part_numbers p ≡ body_numbers (body_row bodies)
body_numbers_lem s None [] w = refl
body_numbers_lem s None (x ∷ xs) w = absurd w
body_numbers_lem s (Some (a, b)) [] w = absurd w
body_numbers_lem s (Some (a, b)) (x ∷ xs) w = let e = part_extent s (Some (a, b)) x w in rw (e.0, e.1)

-- a property's numbers before the rest
held_before :
    (s : List ℕ) (h : Held) (q : Property) → HeldIs s h q → (xs ys : List ℕ) → xs ≡ ys →
    held_numbers h ++ xs ≡ property_numbers (property_row q) ++ ys
held_before s h q k xs ys e = ap₂ (λ (a b : List ℕ). a ++ b) (held_numbers_lem s h q k) e

parts_numbers_lem : (s : List ℕ) (c : Contents) (x : Content) → ContentsAre s c x → picture_refusal x ≡ Ok tt →
    (0 ∷ x.place ∷ ILBM ∷ []) ++ parts_numbers c ≡ row_numbers (picture_row x)
unfolding row_numbers picture_row
parts_numbers_lem s c x w e =
    rw e (ap (λ (l : List ℕ). (0 ∷ x.place ∷ ILBM ∷ []) ++ l)
    (held_before s c.bmhd x.bmhd w.bmhd _ _
    (held_before s c.cmap x.cmap w.cmap _ _
    (held_before s c.grab x.grab w.grab _ _
    (held_before s c.dest x.dest w.dest _ _
    (held_before s c.sprt x.sprt w.sprt _ _
    (held_before s c.camg x.camg w.camg _ _
    (body_numbers_lem s c.body x.bodies w.body))))))))

-- which content is judged, and what of it is told beside a refusal
judged_found : (x y : Content) → judged x ≡ found y → y ≡ x
judged_found x y e = go (picture_refusal x) e
  where
    go : (r : Result (Unit {0}) Reason) → passing r (found x) ≡ found y → y ≡ x
    go (Ok u) e = cc
    go (Err n) e = absurd (let z : ◌≡◌ {A = ℕ} 0 1 = cc in omega arith)

refused_numbers : (x : Content) (k : Reason) (p : ℕ) → judged x ≡ refused k p →
    (number_of k ∷ x.place ∷ ILBM ∷ []) ++ parts_numbers no_parts ≡ row_numbers (picture_row x)
unfolding row_numbers picture_row
refused_numbers x k p e = rw (go (picture_refusal x) e)
  where
    go : (r : Result (Unit {0}) Reason) → passing r (found x) ≡ refused k p → r ≡ Err k
    go (Ok u) e = absurd (let z : ◌≡◌ {A = ℕ} 0 1 = cc in omega arith)
    go (Err n) e = cc

module _ (s : List ℕ) (form : ℕ) (p : Scope) (v : Answer (Contents × BitmapHeader)) (w : FormView s form p v) (at : ℕ) (t t₁ : List ℕ) where
  pub seen_put : (c : Contents) (h : BitmapHeader) → v ≡ Ok (c, h) → t₁ ≡ put_at at ((0 ∷ form ∷ ILBM ∷ []) ++ parts_numbers c) t →
      PutsPicture s form p at t t₁
  seen_put c h i e = record { at = go }
    where
      go : (G : Chunks) (scope : Shares) → Opens s form G → ScopeIs s p scope →
          t₁ ≡ put_at at (row_numbers (picture_row (content_of form G scope))) t
      go G scope o k =
          let y : ViewIs s (Ok (c, h)) (judged (content_of form G scope)) = rw i at (w.at G scope o k) in
          let j = judged_found (content_of form G scope) y.0 y.1 in
          rw (← parts_numbers_lem s c (content_of form G scope) (rw j at y.2.parts) (rw j at y.2.sound)) e

  pub refused_put : (r : Refusal) (n : ℕ) (c : Contents) → v ≡ Err r → n ≡ number_of r.reason → c ≡ no_parts →
      t₁ ≡ put_at at ((n ∷ form ∷ ILBM ∷ []) ++ parts_numbers c) t → PutsPicture s form p at t t₁
  refused_put r n c i m j e = record { at = go }
    where
      go : (G : Chunks) (scope : Shares) → Opens s form G → ScopeIs s p scope →
          t₁ ≡ put_at at (row_numbers (picture_row (content_of form G scope))) t
      go G scope o k =
          let y : judged (content_of form G scope) ≡ refused r.reason r.place = rw i at (w.at G scope o k) in
          let z : t₁ ≡ put_at at ((number_of r.reason ∷ form ∷ ILBM ∷ []) ++ parts_numbers no_parts) t = rw (m, j) at e in
          rw (← refused_numbers (content_of form G scope) r.reason r.place y) z
