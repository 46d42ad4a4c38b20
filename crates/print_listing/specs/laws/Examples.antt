-- 01 "Examples": FORM, size 4, ILBM prints these twelve lines; FOR1, size 4, ILBM is refused with 3 at 0.
use Rattle.std.specs.Prelude.{◌≡◌, refl, [], ◌∷◌, ◌++◌}
use Rattle.iff_name.specs.Name.{well_formed, version_name, type_name, type_bytes, reserved_name, kind_of}
use Rattle.iff_chunk.specs.Chunks.{word, bytes, count}
use Rattle.iff_header.specs.Checks.{header_of, group_header_of}
use Rattle.iff_tree.specs.Judge.{read_file, chunk_at, run}
use Rattle.list_spec.specs.Records.{records_from, pick_record}
use Rattle.ilbm_spec.specs.Contents.{contents_from}
use Rattle.print_line.specs.Text.{decimal_up_to, number_line, kind_line, name_line}
use Rattle.print_line.specs.laws.Examples.{head_bytes, record_bytes}
use Rattle.print_listing.specs.Lines.{lines_from, printed}

pub form_printed : printed (70 ∷ 79 ∷ 82 ∷ 77 ∷ 0 ∷ 0 ∷ 0 ∷ 4 ∷ 73 ∷ 76 ∷ 66 ∷ 77 ∷ []) ≡ head_bytes ++ record_bytes
unfolding read_file chunk_at run header_of group_header_of word bytes count well_formed version_name type_name type_bytes reserved_name kind_of records_from pick_record contents_from lines_from decimal_up_to number_line kind_line name_line
form_printed = refl

-- answer=3, place=0
pub version_printed : printed (70 ∷ 79 ∷ 82 ∷ 49 ∷ 0 ∷ 0 ∷ 0 ∷ 4 ∷ 73 ∷ 76 ∷ 66 ∷ 77 ∷ []) ≡
    97 ∷ 110 ∷ 115 ∷ 119 ∷ 101 ∷ 114 ∷ 61 ∷ 51 ∷ 10 ∷
    112 ∷ 108 ∷ 97 ∷ 99 ∷ 101 ∷ 61 ∷ 48 ∷ 10 ∷
    []
unfolding read_file chunk_at header_of word version_name kind_of lines_from decimal_up_to number_line
version_printed = refl
