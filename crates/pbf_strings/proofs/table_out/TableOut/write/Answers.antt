use Rattle.pbf_strings.proofs.WrittenTable.{table_written}
use Rattle.pbf_strings.proofs.table_out.TableOut.write.Goals as goal

pub returns : goal.returns
returns g c =
    let rest = c.in_ok-put_texts.ensures {u = tt} in
    table_written c.args.self.now c.args.out.now.items c.put_bytes.new.out.items c.put_texts.new.out.items (c.in_ok-put_bytes.ensures {u = tt}) (rw (c.as_slice.ensures.keys, c.self.view_is) at rest)
