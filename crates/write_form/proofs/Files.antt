-- The whole file from its parts: its length, and each part put behind the one before it.
use Prim.Native.Nat.{ℕ, suc, ◌+◌, ◌%◌, ◌≤◌}
use mathlib.Core.Path.{◌≡◌, sym, ap, refl, ◌∙◌}
use mathlib.Core.Bool.{Bool, true, false}
use mathlib.Core.List.{List, ◌++◌, append_assoc}
use lib.Dec.{eqb}
use lib.ListN.{length, replicate, length-append, length-replicate}
use native.Mathlib.Omega.{arith}
use Rattle.iff_name.specs.Name.{pick}
use Rattle.ilbm_spec.specs.declared.BitmapHeader.{BitmapHeader}
use Rattle.iff_name.specs.Codes.{FORM}
use Rattle.ilbm_spec.specs.Names.{BODY}
use Rattle.write_plane_row.specs.Put.{put, Room}
use Rattle.write_body.specs.Body.{body_bytes}
use Rattle.write_form.specs.File.{picture_file}
use Rattle.write_form.specs.Parts.{chunk_head, palette_chunk, type_and_header, palette_size}
use Rattle.write_form.specs.laws.Parts.{header_length, palette_length, file_parts, file_length}
use Rattle.write_plane_row.proofs.Buffers.{put_put}

pub palette_small : (n colours : ℕ) → n ≤ 768 → colours ≡ palette_size n → colours ≤ 777
palette_small n colours h e = go (eqb n 0) e
  where
    go : (t : Bool) → colours ≡ pick t 0 (8 + n + n % 2) → colours ≤ 777
    go true d = omega arith
    go false d = omega arith

-- more bytes at the end of those at the buffer's start
put_step :
    (out bs cs before after : List ℕ) (q : ℕ) → length bs + length cs ≤ length out → before ≡ put out 0 bs → q ≡ length bs → after ≡ put before q cs →
    after ≡ put out 0 (bs ++ cs)
put_step out bs cs before after q l d e f =
    let at : q ≡ 0 + length bs = omega arith in
    f ∙ rw (d, at) (put_put out 0 bs cs (omega arith))

module _
    (b : BitmapHeader) (palette frame shape : List ℕ) (colours body : ℕ) (p : colours ≡ palette_size (length palette))
    (q : body ≡ length (body_bytes b frame shape)) where
  pub file_size : length (picture_file b palette frame shape) ≡ 48 + colours + body + body % 2
  file_size = file_length b palette frame shape ∙ rw (← p, ← q) (omega arith)

  module _ (out : List ℕ) (room : Room (picture_file b palette frame shape) out 0) where
    pub file_fits : 48 + colours + body + body % 2 ≤ length out
    file_fits = let s = file_size in let f = room.fits in omega arith

    pub file_short : 48 + colours + body + body % 2 ≤ 16777216
    file_short = let s = file_size in let f = room.short in omega arith

    pub file_put :
        (o₁ o₂ o₃ o₄ o₅ o₆ : List ℕ) (end : ℕ) → o₁ ≡ put out 0 (chunk_head FORM (40 + colours + body + body % 2)) → o₂ ≡ put o₁ 8 (type_and_header b) →
        o₃ ≡ put o₂ 40 (palette_chunk palette) → o₄ ≡ put o₃ (40 + colours) (chunk_head BODY body) →
        o₅ ≡ put o₄ (48 + colours) (body_bytes b frame shape) → end ≡ 48 + colours + length (body_bytes b frame shape) →
        o₆ ≡ put o₅ end (replicate (body % 2) 0) → o₆ ≡ put out 0 (picture_file b palette frame shape)
    file_put o₁ o₂ o₃ o₄ o₅ o₆ end e₁ e₂ e₃ e₄ e₅ e e₆ =
        let fits = file_fits in
        let A₁ : List ℕ = chunk_head FORM (40 + colours + body + body % 2) in
        let A₂ : List ℕ = type_and_header b in
        let A₃ : List ℕ = palette_chunk palette in
        let A₄ : List ℕ = chunk_head BODY body in
        let A₅ : List ℕ = body_bytes b frame shape in
        let A₆ : List ℕ = replicate (body % 2) 0 in
        let n₂ : length A₂ ≡ 32 = ap (λ (k : ℕ). suc (suc (suc (suc (suc (suc (suc (suc (suc (suc (suc (suc k)))))))))))) (header_length b) in
        let n₃ : length A₃ ≡ colours = palette_length palette ∙ sym p in
        let n₆ : length A₆ ≡ body % 2 = length-replicate {A = ℕ} (body % 2) 0 in
        let l₂ : length (A₁ ++ A₂) ≡ 40 = rw (length-append A₁ A₂, n₂) in
        let l₃ : length ((A₁ ++ A₂) ++ A₃) ≡ 40 + colours = rw (length-append (A₁ ++ A₂) A₃, l₂, n₃) in
        let l₄ : length (((A₁ ++ A₂) ++ A₃) ++ A₄) ≡ 48 + colours = length-append ((A₁ ++ A₂) ++ A₃) A₄ ∙ rw l₃ (omega arith) in
        let l₅ : length ((((A₁ ++ A₂) ++ A₃) ++ A₄) ++ A₅) ≡ 48 + colours + length A₅ = length-append (((A₁ ++ A₂) ++ A₃) ++ A₄) A₅ ∙ rw l₄ in
        let s₂ : o₂ ≡ put out 0 (A₁ ++ A₂) = put_step out A₁ A₂ o₁ o₂ 8 (omega arith) e₁ refl e₂ in
        let s₃ : o₃ ≡ put out 0 ((A₁ ++ A₂) ++ A₃) = put_step out (A₁ ++ A₂) A₃ o₂ o₃ 40 (omega arith) s₂ (sym l₂) e₃ in
        let s₄ : o₄ ≡ put out 0 (((A₁ ++ A₂) ++ A₃) ++ A₄) = put_step out ((A₁ ++ A₂) ++ A₃) A₄ o₃ o₄ (40 + colours) (omega arith) s₃ (sym l₃) e₄ in
        let s₅ : o₅ ≡ put out 0 ((((A₁ ++ A₂) ++ A₃) ++ A₄) ++ A₅) = put_step out (((A₁ ++ A₂) ++ A₃) ++ A₄) A₅ o₄ o₅ (48 + colours) (omega arith) s₄ (sym l₄) e₅ in
        let s₆ : o₆ ≡ put out 0 (((((A₁ ++ A₂) ++ A₃) ++ A₄) ++ A₅) ++ A₆) =
        put_step out ((((A₁ ++ A₂) ++ A₃) ++ A₄) ++ A₅) A₆ o₅ o₆ end (omega arith) s₅ (e ∙ sym l₅) e₆ in
        s₆ ∙ ap (λ (l : List ℕ). put out 0 l) (joined A₂ A₃ A₅ ∙ sym (file_parts b palette frame shape ∙ rw (← p, ← q)))
      where
        joined :
            (h c d : List ℕ) →
            ((((chunk_head FORM (40 + colours + body + body % 2) ++ h) ++ c) ++ chunk_head BODY body) ++ d) ++ replicate (body % 2) 0
            ≡ (chunk_head FORM (40 + colours + body + body % 2) ++ h) ++ (c ++ (chunk_head BODY body ++ (d ++ replicate (body % 2) 0)))
        joined h c d = simp append_assoc
