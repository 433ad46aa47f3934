use Rattle.pbfcut_program.proofs.several_files.with_file.Goals as goal

pub returns : goal.returns
returns g c =
    let begun = c.begin_output-output.ensures in
    let outputs = c.add_output-outputs.ensures in
    let parts = c.add_part-parts.ensures in
    record {
      output = c.begin_output-output.result;
      outputs = outputs.items;
      parts = parts.items;
      cut_is = begun.area.0;
      none = (begun.area.1, begun.area.2);
      drain = begun.drain;
      room = (outputs.room, parts.room);
    }
