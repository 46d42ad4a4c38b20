-- 01 "Pictures" and Ask 2: the refusals of a picture, the picture call and the palette.
use Rattle.std.specs.Prelude.{ℕ, zero, suc, ◌+◌, ◌-◌, ◌*◌, ◌%◌, Bool, true, false, not, List, [], ◌∷◌, ltb, eqb, ℤ, pos, negsuc, length, get_or}
use Rattle.iff_name.specs.Name.{both, either, pick}
use Rattle.iff_chunk.specs.Chunks.{Chunk, word}
use Rattle.iff_tree.specs.Judge.{Found, found, refused, read_file}
use Rattle.ilbm_spec.specs.declared.Origin.{Origin}
use Rattle.ilbm_spec.specs.declared.Origin.TheVariants.{Own, Shared, Absent}
use Rattle.ilbm_spec.specs.declared.BitmapHeader.{BitmapHeader}
use Rattle.ilbm_spec.specs.declared.HotSpot.{HotSpot}
use Rattle.ilbm_spec.specs.declared.Destination.{Destination}
use Rattle.ilbm_spec.specs.declared.Picture.{Picture}
use Rattle.ilbm_spec.specs.Contents.{Property, own, shared, absent, Content, contents_of}
use Rattle.iff_refusal.specs.declared.Reason.TheVariants.{NoPicture, NoHeader, SecondBody, WrongSize, EmptyPicture, TooManyPlanes, UnknownMasking}
use Rattle.iff_refusal.specs.declared.Reason.TheVariants.{UnknownCompression}
use Rattle.iff_refusal.specs.declared.Reason.{Reason}
use Rattle.iff_refusal.specs.Numbers.{Answer, refusing}
use Rattle.std.specs.Prelude.{Result, Ok, Err}

-- a big-endian number of two bytes in a chunk's data
abbrev pub u16 : List ℕ → ℕ → ℕ
u16 d i = get_or d i 0 * 256 + get_or d (i + 1) 0

-- a 16-bit number read as signed: v, or v - 65536 from 32768 on
abbrev pub signed : ℕ → ℤ
signed v = pick (ltb v 32768) (pos v) (negsuc (65535 - v))

-- "BMHD is 20 bytes: w, h (16-bit), x, y (signed 16), nPlanes, masking, compression, pad1 (8 each), transparentColor (16), xAspect,
-- yAspect (8), pageWidth, pageHeight (signed 16)."
unfoldable pub header_in : List ℕ → BitmapHeader
header_in d =
    record {
      w = u16 d 0;
      h = u16 d 2;
      x = signed (u16 d 4);
      y = signed (u16 d 6);
      planes = get_or d 8 0;
      masking = get_or d 9 0;
      compression = get_or d 10 0;
      pad1 = get_or d 11 0;
      transparent = u16 d 12;
      x_aspect = get_or d 14 0;
      y_aspect = get_or d 15 0;
      page_width = signed (u16 d 16);
      page_height = signed (u16 d 18);
    }

-- GRAB: the hot spot's x and y, signed
unfoldable pub hot_spot_in : List ℕ → HotSpot
hot_spot_in d = record { x = signed (u16 d 0); y = signed (u16 d 2) }

-- DEST: depth, pad1, planePick, planeOnOff, planeMask
unfoldable pub destination_in : List ℕ → Destination
destination_in d =
    record { depth = get_or d 0 0; pad1 = get_or d 1 0; plane_pick = u16 d 2; plane_on_off = u16 d 4; plane_mask = u16 d 6 }

-- a property's data, empty if it is absent
abbrev pub data_of : Property → List ℕ
data_of (own x) = x.content
data_of (shared p x) = x.content
data_of absent = []

abbrev pub origin_of : Property → Origin
origin_of (own x) = Own
origin_of (shared p x) = Shared p
origin_of absent = Absent

abbrev pub counts : Property → Bool
counts (own x) = true
counts (shared p x) = true
counts absent = false

-- 23: "a counting property has a wrong size (BMHD 20, CMAP a multiple of 3, GRAB 4, DEST 8, SPRT 2, CAMG 4)"
abbrev pub size_not : ℕ → Property → Bool
size_not n q = both (counts q) (not (eqb (length (data_of q)) n))

abbrev pub size_not_triples : Property → Bool
size_not_triples q = both (counts q) (not (eqb (length (data_of q) % 3) 0))

unfoldable pub wrong_size : Content → Bool
wrong_size c =
    either (size_not 20 c.bmhd)
    (either (size_not_triples c.cmap)
    (either (size_not 4 c.grab)
    (either (size_not 8 c.dest)
    (either (size_not 2 c.sprt) (size_not 4 c.camg)))))

-- "w, h or nPlanes 0"
abbrev pub empty_fields : ℕ → ℕ → ℕ → Bool
empty_fields w h planes = either (eqb w 0) (either (eqb h 0) (eqb planes 0))

-- "41 nPlanes over 8; 42 masking over 3; 43 compression over 1"; 24 if the picture is empty; "checked in the order 41, 42, 43, 24".
unfoldable pub fields_refusal : ℕ → ℕ → ℕ → Bool → Result (Unit {0}) Reason
fields_refusal planes masking compression empty =
    pick (ltb 8 planes) (Err TooManyPlanes)
    (pick (ltb 3 masking) (Err UnknownMasking)
    (pick (ltb 1 compression) (Err UnknownCompression)
    (pick empty (Err EmptyPicture)
    (Ok tt))))

-- "24 now means w, h or nPlanes 0 with a BODY"
unfoldable pub header_refusal : BitmapHeader → Bool → Result (Unit {0}) Reason
header_refusal b hasBody =
    fields_refusal b.planes b.masking b.compression (both hasBody (empty_fields b.w b.h b.planes))

-- 21, 22, 23 and then the header's, "where 24 stood".
unfoldable pub picture_refusal : Content → Result (Unit {0}) Reason
picture_refusal c =
    pick (not (counts c.bmhd)) (Err NoHeader)
    (pick (ltb 1 (length c.bodies)) (Err SecondBody)
    (pick (wrong_size c) (Err WrongSize)
    (header_refusal (header_in (data_of c.bmhd)) (ltb 0 (length c.bodies)))))

-- A picture that is not refused, or the refusal.
abbrev pub Viewed : Type 0
Viewed = Found Content

-- what is found behind a check that passes; a refusal for what has no place
abbrev pub passing : {A : Type 0} → Result (Unit {0}) Reason → Found A → Found A
passing (Ok u) f = f
passing (Err k) f = refused k 0

abbrev pub judged : Content → Viewed
judged c = passing (picture_refusal c) (found c)

-- the picture of number i in a list; 20: "no such picture"
unfoldable pub pick_content : List Content → ℕ → Viewed
pick_content [] i = refused NoPicture 0
pick_content (c ∷ cs) zero = judged c
pick_content (c ∷ cs) (suc i) = pick_content cs i

abbrev pub view_in : Found Chunk → ℕ → Viewed
view_in (found c) i = pick_content (contents_of c) i
view_in (refused k p) i = refused k p

-- The picture of number i in a file: "After the structure refusals, in this order", 20, 21 and so on.
abbrev pub view_of : List ℕ → ℕ → Viewed
view_of s i = view_in (read_file s) i

-- what the picture call tells
unfoldable pub picture_from : Content → Picture
picture_from c =
    record {
      header = header_in (data_of c.bmhd);
      header_from = origin_of c.bmhd;
      palette_from = origin_of c.cmap;
      grab = hot_spot_in (data_of c.grab);
      grab_from = origin_of c.grab;
      destination = destination_in (data_of c.dest);
      destination_from = origin_of c.dest;
      sprite = u16 (data_of c.sprt) 0;
      sprite_from = origin_of c.sprt;
      view_mode = word (data_of c.camg) 0;
      view_mode_from = origin_of c.camg;
    }

abbrev pub picture_answer : Viewed → Answer Picture
picture_answer (found c) = Ok (picture_from c)
picture_answer (refused k p) = refusing k p

abbrev pub picture_of : List ℕ → ℕ → Answer Picture
picture_of s i = picture_answer (view_of s i)

-- "The palette is the CMAP that counts, or the caller's own default where none counts"
abbrev pub palette_of_property : Property → List ℕ → List ℕ
palette_of_property (own x) default = x.content
palette_of_property (shared p x) default = x.content
palette_of_property absent default = default
