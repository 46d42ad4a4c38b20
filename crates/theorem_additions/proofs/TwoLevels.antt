-- 02's Ask 1 with demand 3: two PROPs give a picture its properties, and each one's place moves by the bytes put before that PROP.
use Rattle.std.specs.Prelude.{ℕ, ◌≡◌, refl, List, [], ◌∷◌}
use Rattle.std.proofs.Common.{ap, ◌∙◌, arith}
use Rattle.iff_name.specs.Name.{well_formed, version_name, type_name, type_bytes, reserved_name, kind_of}
use Rattle.iff_name.specs.Codes.{FORM, LIST, PROP, JJJJ}
use Rattle.iff_chunk.specs.Chunks.{none, leaf, group, Chunk, a_group, before, bytes, word}
use Rattle.iff_rules.specs.Rules.{prop_within}
use Rattle.iff_header.specs.Checks.{header_of, group_header_of}
use Rattle.iff_tree.specs.Judge.{found, read_file, run, chunk_at}
use Rattle.iff_grammar.specs.Words.{Bytes}
use Rattle.ilbm_spec.specs.Names.{ILBM, BMHD, CMAP}
use Rattle.ilbm_spec.specs.Contents.{located, shared, absent, last_named, list_scope, property_of, bodies_from, contents_from, moved_bodies}
use Rattle.ilbm_spec.specs.Pictures.{header_in, wrong_size, fields_refusal, header_refusal, picture_refusal, Viewed, pick_content, view_of}
use Rattle.theorem_additions.specs.Additions.{here, past, into, Addition, chunk, prop_types, insert, boundary_place, around, grow_all}
use Rattle.theorem_additions.specs.Additions.{MayAddAll, file_after, moved_by}
use Rattle.theorem_additions.specs.Statement.{moved_view, Unchanged}
use Rattle.theorem_additions.proofs.Demand3.{demand3}
use Rattle.theorem_additions.proofs.Examples.{header, filler, local, small, small_bytes, step}

-- "the outer PROP ILBM has BMHD .., the inner PROP ILBM only a CMAP"; each group beside its place
abbrev tree : Chunk
tree =
    a_group LIST JJJJ  -- 0
    (group PROP ILBM (leaf BMHD header [] none)  -- 12
    (group LIST JJJJ  -- 52
    (group PROP ILBM (leaf CMAP (1 ∷ 2 ∷ 3 ∷ []) (0 ∷ []) none)  -- 64
    (group FORM ILBM none none))  -- 88
    none))

abbrev file : List ℕ
file = bytes (before tree none)

abbrev additions : List Addition
additions =
    chunk here filler ∷  -- 8 bytes before both PROPs
    chunk (past (into here)) local ∷  -- 10 bytes in the outer PROP, before its BMHD
    chunk (past (past (into (into here)))) filler ∷  -- 8 bytes in the inner PROP, before its CMAP
    []

reads : read_file file ≡ found tree
unfolding read_file chunk_at run header_of group_header_of word bytes well_formed version_name type_name type_bytes reserved_name kind_of prop_within
reads = refl

may : MayAddAll additions tree file
unfolding well_formed version_name type_name type_bytes reserved_name kind_of prop_types insert boundary_place around grow_all bytes word
may =
    step (refl, tt, refl) (omega arith) (omega arith)
    (step (refl, refl, refl) (omega arith) (omega arith)
    (step (refl, tt, refl) (omega arith) (omega arith)
    tt))

file_bytes : Bytes file
unfolding small bytes
file_bytes = small_bytes file refl

unchanged : Unchanged file tree additions
unchanged = demand3 file file_bytes tree reads additions may

-- the picture with the places of its FORM, of the PROP of its BMHD and of that of its CMAP, each followed by the chunk's own
abbrev shows : ℕ → ℕ → ℕ → ℕ → ℕ → Viewed
shows form outer bmhd inner cmap =
    found (record {
      place = form;
      bmhd = shared outer (located bmhd header);
      cmap = shared inner (located cmap (1 ∷ 2 ∷ 3 ∷ []));
      grab = absent;
      dest = absent;
      sprt = absent;
      camg = absent;
      bodies = [];
    })

view_before : view_of file 0 ≡ shows 88 12 24 64 76
unfolding
    read_file chunk_at run header_of group_header_of word well_formed version_name type_name type_bytes reserved_name kind_of prop_within
    contents_from list_scope property_of last_named bodies_from pick_content picture_refusal wrong_size header_refusal fields_refusal header_in bytes
view_before = refl

view_moved : moved_view (moved_by additions tree) (shows 88 12 24 64 76) ≡ shows 114 20 42 82 102
unfolding moved_by moved_bodies insert boundary_place bytes
view_moved = refl

view_after : view_of (file_after additions tree file) 0 ≡ shows 114 20 42 82 102
view_after = unchanged.answers.views 0 ∙ (ap (moved_view (moved_by additions tree)) view_before ∙ view_moved)
