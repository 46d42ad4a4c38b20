-- The three demands on the library, as theorems over the definitions that the contracts of the public calls cite.
use Rattle.std.specs.Prelude.{ℕ, ◌<◌, ◌≤◌, ◌≡◌, List, ◌↔◌, length, take, Ok, None}
use Rattle.iff_chunk.specs.Chunks.{Chunk, before, none, bytes, count}
use Rattle.iff_tree.specs.Judge.{found, refused, read_file, check_of, accepting}
use Rattle.iff_grammar.specs.Words.{Bytes}
use Rattle.iff_grammar.specs.Grammar.{ChunkFile}
use Rattle.iff_grammar.proofs.Accept as Accept
use Rattle.list_spec.specs.declared.Record.{Record}
use Rattle.list_spec.specs.Records.{record_of, count_of}
use Rattle.list_capacity.specs.Capacity.{answer_of}
use Rattle.list_reader.specs.Reading.{step_at}
use Rattle.list_reader.specs.Agree.{place_before}
use Rattle.list_reader.proofs.laws.Agree as Reader
use Rattle.byterun_row.specs.Packing.{Packs}
use Rattle.byterun_pack.specs.Pack.{packed, most_for}
use Rattle.byterun_pack.proofs.laws.Packed as Packing
use Rattle.ilbm_spec.specs.declared.BitmapHeader.{BitmapHeader}
use Rattle.ilbm_spec.specs.Table.{table_of, table_answer, table_after}
use Rattle.ilbm_spec.proofs.laws.Shapes as Shapes
use Rattle.ilbm_spec.specs.ShapeBesideColours.{ShapeBesideColours}
use Rattle.ilbm_spec.proofs.laws.Colours as Colours
use Rattle.ilbm_spec.specs.ColoursOfNumbers.{ColoursOfNumbers}
use Rattle.theorem_table.specs.ByTable.{ByTable, RefusedBoth}
use Rattle.theorem_table.proofs.Theorem as Table
use Rattle.write_form.specs.File.{picture_file}
use Rattle.write_picture.specs.Write.{write_of, out_after}
use Rattle.theorem_roundtrip.specs.Header.{InRange}
use Rattle.theorem_roundtrip.proofs.RoundTrip as RoundTrip
use Rattle.theorem_roundtrip.specs.RoundTrip.{ReadsBack}
use Rattle.theorem_additions.specs.Additions.{Addition, file_after, MayAddAll, moved_by}
use Rattle.theorem_additions.specs.Statement as Statement
use Rattle.theorem_additions.proofs.Demand3 as Additions
use Rattle.theorem_demands.specs.Refusals.{Refusals}
use Rattle.theorem_demands.proofs.laws.Refusals as Calls
use Rattle.theorem_demands.specs.Listings as Listings
use Rattle.theorem_demands.specs.Tables as Tables
use Rattle.iff_refusal.specs.declared.Reason.TheVariants.{NoRecord}
use Rattle.iff_refusal.specs.declared.Reason.{Reason}
use Rattle.iff_refusal.specs.Numbers.{refusing}

-- Demand 1. Any bytes may be handed to any public call, and what it refuses with is one of the numbers that 01 gives for this call. That
-- every call ends, stays inside what it was lent and answers by these definitions is what its proved contract says.
pub refused_by_number : Refusals
refused_by_number = Calls.refusals

-- Demand 2. A file is accepted exactly if it is a chunk tree and then trailing bytes, within the limits of length and nesting; and
-- the counts that are told are the tree's.
pub accepted_iff_tree :
    (s : List ℕ) → Bytes s → (n e t : ℕ) →
    (check_of s ≡ accepting n e t) ↔
    ((c : Chunk) × (R : List ℕ) × ChunkFile s c R × (n ≡ count (before c none)) × (e ≡ length (bytes (before c none))) × (t ≡ length R))
accepted_iff_tree = Accept.accepted_iff

-- One file has one tree.
pub one_tree : (s : List ℕ) (c d : Chunk) (R S : List ℕ) → ChunkFile s c R → ChunkFile s d S → (c ≡ d) × (R ≡ S)
one_tree = Accept.unique

-- The listing is given three ways that agree: place i of the table, the i-th answer of the reader and the record asked for by the
-- number i are the same; from the count on it is 14 and the end.
pub listings_agree :
    (s : List ℕ) → Bytes s → (old : List Record) (n e t : ℕ) → answer_of (length old) (check_of s) ≡ accepting n e t →
    (i : ℕ) (unused : Record) → i < n →
    Listings.SameRecord s old i unused
listings_agree = Listings.same_record

pub listings_end :
    (s : List ℕ) → Bytes s → (n e t i : ℕ) → accepting n e t ≡ check_of s → count_of s ≤ i →
    (record_of s i ≡ refusing NoRecord 0) × (step_at s (place_before s i) ≡ None)
listings_end = Reader.ends_behind

-- The pictures are given two ways that agree: what a caller reads from the file by the table of pictures, with the calls on a BODY by
-- itself, is for each picture what the calls by its number tell, `ByTable` has each; there are as many pictures as rows. A file that is
-- refused gives both ways the same number and place.
pub table_answers_as_by_number :
    (s : List ℕ) → Bytes s → (old : List ℕ) (n : ℕ) → table_answer (table_of s (length old)) ≡ Ok n →
    ByTable s (table_after (table_of s (length old)) old) n
table_answers_as_by_number = Table.by_table

pub table_refused_as_by_number : (s : List ℕ) (k : Reason) (p : ℕ) → read_file s ≡ refused k p → RefusedBoth s k p
table_refused_as_by_number = Table.refused_both

-- Where a line or a frame is given with its shape, the colours and the next place or leftover are those of the call without it.
pub shape_beside_colours : ShapeBesideColours
shape_beside_colours = Shapes.shape_beside_colours

-- The colours of a line or a frame are those of its colour numbers, with the same next place or leftover and the same refusals but for 46:
-- by hold-and-modify from black on in each line, and otherwise each number's by itself.
pub colours_of_numbers : ColoursOfNumbers
colours_of_numbers = Colours.colours_of_numbers

-- A packed row unpacks to the row, from any place of any BODY, and grows by at most one byte per started 128.
pub packed_unpacks : (row : List ℕ) → Packs (packed row) row
packed_unpacks = Packing.packed_unpacks

pub packed_short : (row : List ℕ) → length (packed row) ≤ most_for (length row)
packed_short = Packing.packed_short

-- What is written reads back, with an empty default palette: the same fields but pad1, the same palette and frame, the shape as the
-- masking says of the frame and the shape that was handed in, and the colours and triples that the palette gives.
pub written_reads_back :
    (b : BitmapHeader) (palette frame shape out : List ℕ) (n : ℕ) → InRange b → write_of b palette frame shape (length out) ≡ Ok n →
    ReadsBack (take n (out_after (write_of b palette frame shape (length out)) (picture_file b palette frame shape) out))
    b palette frame shape
written_reads_back = RoundTrip.round_trip

-- So it does by its table of pictures, in any lent table with room for one.
pub written_reads_back_by_table :
    (b : BitmapHeader) (palette frame shape out : List ℕ) (n : ℕ) → InRange b → write_of b palette frame shape (length out) ≡ Ok n →
    (old : List ℕ) → 30 ≤ length old →
    Tables.ReadsBackByTable (take n (out_after (write_of b palette frame shape (length out)) (picture_file b palette frame shape) out)) old
    b palette frame shape
written_reads_back_by_table = Tables.written

-- Demand 3. Whatever a later writer adds, list of additions and all: the file is still accepted, every call on every picture
-- answers as before, but that the place told for a PROP moves by the bytes put before that PROP, as all places in the table of pictures do,
-- and version names over added headers give 3 at the first of them.
pub unchanged_by_additions : Statement.Demand3
unchanged_by_additions = Additions.demand3

-- By the two tables, of the file before and after, every call answers the same as well.
pub unchanged_by_table :
    (f : List ℕ) → Bytes f → (c : Chunk) → read_file f ≡ found c → (adds : List Addition) → MayAddAll adds c f → (old : List ℕ) (n : ℕ) →
    table_answer (table_of f (length old)) ≡ Ok n → Tables.SameByTable f (file_after adds c f) old (moved_by adds c) n
unchanged_by_table = Tables.unchanged
