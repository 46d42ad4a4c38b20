-- Each part is put behind the one before it, and what is left has room since the file has. In each answer `sized` is the place after
-- `palette_size`, and `s` the start.
use native.Mathlib.Omega.{arith}
use Rattle.write_form.proofs.Files.{file_fits, file_short, file_put}
use Rattle.write_form.proofs.put_file.Goals as goal

pub overflow_add-colours-2 : goal.overflow_add-colours-2
overflow_add-colours-2 c =
    let short = file_short _ _ _ _ _ _ c.palette_size-colours.ensures c.requires.4 _ c.requires.5 in
    record { fits = omega arith }

pub overflow_add-colours-3 : goal.overflow_add-colours-3
overflow_add-colours-3 c =
    let short = file_short _ _ _ _ _ _ c.palette_size-colours.ensures c.requires.4 _ c.requires.5 in
    record { fits = omega arith }

pub put_head-requires : goal.put_head-requires
put_head-requires c =
    let fits = file_fits _ _ _ _ _ _ c.palette_size-colours.ensures c.requires.4 _ c.requires.5 in
    let short = file_short _ _ _ _ _ _ c.palette_size-colours.ensures c.requires.4 _ c.requires.5 in
    (omega arith, omega arith, omega arith)

pub put_header-requires : goal.put_header-requires
put_header-requires c =
    let fits = file_fits _ _ _ _ _ _ c.palette_size-colours.ensures c.requires.4 _ c.requires.5 in
    omega arith

pub put_palette-requires : goal.put_palette-requires
put_palette-requires c =
    let fits = file_fits _ _ _ _ _ _ c.palette_size-colours.ensures c.requires.4 _ c.requires.5 in
    (c.requires.1, omega (arith, c.palette_size-colours.ensures))

pub put_head-requires-2 : goal.put_head-requires-2
put_head-requires-2 c =
    let p = c.requires in
    let fits = file_fits _ _ _ _ _ _ c.palette_size-colours.ensures p.4 _ p.5 in
    let short = file_short _ _ _ _ _ _ c.palette_size-colours.ensures p.4 _ p.5 in
    (omega arith, omega arith, omega arith)

pub put_body-end-requires : goal.put_body-end-requires
put_body-end-requires c =
    let p = c.requires in
    let fits = file_fits _ _ _ _ _ _ c.palette_size-colours.ensures p.4 _ p.5 in
    let short = file_short _ _ _ _ _ _ c.palette_size-colours.ensures p.4 _ p.5 in
    let is = p.4 in
    (p.0, p.2, p.3, record { fits = omega arith; short = omega arith })

pub put_pad-requires : goal.put_pad-requires
put_pad-requires c =
    let p = c.requires in
    let fits = file_fits _ _ _ _ _ _ c.palette_size-colours.ensures p.4 _ p.5 in
    omega (arith, p.4, c.put_body-end.ensures.ends)

pub returns : goal.returns
returns c =
    file_put _ _ _ _ _ _ c.palette_size-colours.ensures c.requires.4 _ c.requires.5 _ _ _ _ _ _ _ c.put_head.ensures c.put_header.ensures
    c.put_palette.ensures c.put_head-2.ensures c.put_body-end.ensures.bytes c.put_body-end.ensures.ends c.put_pad.ensures
