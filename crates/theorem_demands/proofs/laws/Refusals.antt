-- What each call refuses with, call by call.
use Rattle.theorem_demands.specs.Refusals.{Refusals}
use Rattle.theorem_demands.proofs.laws.FileCalls as FileCalls
use Rattle.theorem_demands.proofs.laws.PictureCalls as PictureCalls

pub refusals : Refusals
refusals =
    record {
      check = FileCalls.check;
      clean_copy = FileCalls.clean_copy;
      record_by_number = FileCalls.record_by_number;
      chunk_data = FileCalls.chunk_data;
      chunk_extent = FileCalls.chunk_extent;
      table = FileCalls.table;
      reader = FileCalls.reader;
      picture_count = FileCalls.picture_count;
      properties = PictureCalls.properties;
      palette = PictureCalls.palette;
      line = PictureCalls.line;
      frame = PictureCalls.frame;
      picture_table = FileCalls.picture_table;
      body_line_lem = PictureCalls.body_line_lem;
      body_frame_lem = PictureCalls.body_frame_lem;
      shape_line = PictureCalls.shape_line;
      shape_frame = PictureCalls.shape_frame;
      body_shape_line_lem = PictureCalls.body_shape_line_lem;
      body_shape_frame_lem = PictureCalls.body_shape_frame_lem;
      colour_line = PictureCalls.colour_line;
      colour_frame = PictureCalls.colour_frame;
      body_colour_line_lem = PictureCalls.body_colour_line_lem;
      body_colour_frame_lem = PictureCalls.body_colour_frame_lem;
      triples = PictureCalls.triples;
      pack = PictureCalls.pack;
      pack_refused = PictureCalls.pack_refused;
      write = PictureCalls.write;
    }
