-- The chunks of the file: each is put by a few stores or copies, one behind the other.
use Prim.Native.Nat.{ℕ, zero, suc, ◌+◌, ◌%◌, ◌≤◌, ◌<◌}
use mathlib.Core.Path.{◌≡◌, refl, sym, ap, ◌∙◌}
use mathlib.Core.List.{List, [], ◌∷◌, ◌++◌, append_assoc}
use lib.ListN.{length, take, drop, set, replicate, length-append, length-replicate}
use lib.Seq.{paste, take_all}
use borrow.Author.Tests.{eq-eqb, ne_eqb}
use native.Mathlib.Nat.{add-zero}
use native.Mathlib.Omega.{arith}
use Rattle.iff_chunk.specs.Chunks.{put_word}
use Rattle.ilbm_spec.specs.declared.BitmapHeader.{BitmapHeader}
use Rattle.ilbm_spec.specs.Names.{ILBM, BMHD, CMAP}
use Rattle.write_plane_row.specs.Put.{put}
use Rattle.write_form.specs.Parts.{chunk_head, palette_chunk, type_and_header, palette_size}
use Rattle.write_form.specs.laws.Parts.{header_length}
use Rattle.write_form.specs.File.{header_bytes}
use Rattle.write_plane_row.proofs.Buffers.{put_none, put_next, put_put}

-- a copy of all of a slice
paste_put : (out src : List ℕ) (at n : ℕ) → length src ≡ n → paste out at src n ≡ put out at src
paste_put out src at n e =
    let t : take n src ≡ src = take_all n src (omega arith) in
    rw (append_assoc (take at out) (take n src) (drop (at + n) out), t, e)

pub word_put : (v at : ℕ) (out after word : List ℕ) → word ≡ put_word v [] → after ≡ paste out at word 4 → after ≡ put out at (put_word v [])
word_put v at out after word e d = d ∙ rw e (paste_put out (put_word v []) at 4 refl)

pub head_put :
    (name size at : ℕ) (out first after : List ℕ) → at + 8 ≤ length out → first ≡ put out at (put_word name []) →
    after ≡ put first (at + 4) (put_word size []) → after ≡ put out at (chunk_head name size)
head_put name size at out first after l d e = e ∙ rw d (put_put out at (put_word name []) (put_word size []) (omega arith))

pub header_put :
    (b : BitmapHeader) (out first middle after head : List ℕ) → 40 ≤ length out → first ≡ put out 8 (put_word ILBM []) →
    middle ≡ put first 12 (chunk_head BMHD 20) → head ≡ header_bytes b → after ≡ paste middle 20 head 20 → after ≡ put out 8 (type_and_header b)
header_put b out first middle after head l d m e f =
    let n = header_length b in
    let both : middle ≡ put out 8 (put_word ILBM (chunk_head BMHD 20)) =
    m ∙ rw d (put_put out 8 (put_word ILBM []) (chunk_head BMHD 20) (omega arith)) in
    let last : after ≡ put middle 20 (header_bytes b) = f ∙ rw e (paste_put middle (header_bytes b) 20 20 n) in
    last ∙ rw both (put_put out 8 (put_word ILBM (chunk_head BMHD 20)) (header_bytes b) (omega arith))

pub pad_odd : (n at : ℕ) (out : List ℕ) → n % 2 ≡ 1 → at + n % 2 ≤ length out → set out at 0 ≡ put out at (replicate (n % 2) 0)
pad_odd n at out e h =
    let z = put_next out at [] 0 (omega arith) in
    rw e (rw (put_none out at, add-zero at) at z)

pub pad_even : (n at : ℕ) (out : List ℕ) → (n % 2 ≡ 1 → ⊥) → out ≡ put out at (replicate (n % 2) 0)
pad_even n at out e =
    let z : n % 2 ≡ 0 = odd-not (n % 2) (omega arith) e in
    rw z (sym (put_none out at))
  where
    odd-not : (m : ℕ) → m < 2 → (m ≡ 1 → ⊥) → m ≡ 0
    odd-not zero l f = refl
    odd-not (suc zero) l f = absurd (f refl)
    odd-not (suc (suc m)) l f = absurd (omega arith)

pub no_palette : (n : ℕ) → n ≡ 0 → 0 ≡ palette_size n
no_palette n e = rw (eq-eqb n 0 e)

pub some_palette : (n : ℕ) → (n ≡ 0 → ⊥) → 8 + n + n % 2 ≡ palette_size n
some_palette n e = rw (ne_eqb n 0 e)

pub palette_room : (n m : ℕ) → (n ≡ 0 → ⊥) → 40 + palette_size n ≤ m → 48 + n + n % 2 ≤ m
palette_room n m e h = let z = some_palette n e in omega arith

pub palette_none : (palette out : List ℕ) → length palette ≡ 0 → out ≡ put out 40 (palette_chunk palette)
palette_none [] out e = sym (put_none out 40)
palette_none (x ∷ xs) out e = absurd (omega arith)

some_chunk : (palette : List ℕ) → (length palette ≡ 0 → ⊥) → palette_chunk palette ≡ chunk_head CMAP (length palette) ++ (palette ++ replicate (length palette % 2) 0)
some_chunk [] e = absurd (e refl)
some_chunk (x ∷ xs) e = refl

pub palette_put :
    (palette out one two three : List ℕ) → (length palette ≡ 0 → ⊥) → 40 + palette_size (length palette) ≤ length out →
    one ≡ put out 40 (chunk_head CMAP (length palette)) → two ≡ paste one 48 palette (length palette) →
    three ≡ put two (48 + length palette) (replicate (length palette % 2) 0) → three ≡ put out 40 (palette_chunk palette)
palette_put palette out one two three e h p q r =
    let room = palette_room (length palette) (length out) e h in
    let n = length-replicate {A = ℕ} (length palette % 2) 0 in
    let m = length-append (chunk_head CMAP (length palette)) palette in
    let second : two ≡ put out 40 (chunk_head CMAP (length palette) ++ palette) =
    q ∙ paste_put one palette 48 (length palette) refl ∙ rw p (put_put out 40 (chunk_head CMAP (length palette)) palette (omega arith)) in
    let at : 48 + length palette ≡ 40 + length (chunk_head CMAP (length palette) ++ palette) = omega arith in
    let third : three ≡ put out 40 ((chunk_head CMAP (length palette) ++ palette) ++ replicate (length palette % 2) 0) =
    r ∙ rw (second, at) (put_put out 40 (chunk_head CMAP (length palette) ++ palette) (replicate (length palette % 2) 0) (omega arith)) in
    third ∙ ap (λ (l : List ℕ). put out 40 l) (append_assoc (chunk_head CMAP (length palette)) palette (replicate (length palette % 2) 0) ∙ sym (some_chunk palette e))

pub ruleset chunk_laws = (word_put, head_put, header_put, pad_odd, pad_even, no_palette, some_palette, palette_none, palette_put)
