use Rattle.std.proofs.Common.{refl}
use Rattle.pbf_strings.specs.TableOut.{texts_after}
use Rattle.pbf_dense.proofs.dense_out.DenseOut.new.Goals as goal

pub returns : goal.returns
returns c = λ texts. record { columns = λ used. rw (c.new.ensures, c.new-2.ensures, c.new-3.ensures, c.new-5.ensures, c.new-4.ensures (texts_after texts used)) refl }
