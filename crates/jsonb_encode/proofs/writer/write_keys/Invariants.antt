use Rattle.std.proofs.Common.{◌≡◌, ◌*◌, ◌++◌, length}
use Rattle.json_exact.specs.MapIteration.{left}
use Rattle.json_exact.specs.Trees.{Pairs, pairs}
use Rattle.jsonb_layout.specs.declared.form.Form.TheVariants.{Object}
use Rattle.jsonb_encode.specs.inner.Writing.{IsOpen, pair_keys}
use Rattle.jsonb_encode.proofs.writer.write_keys.Given as goal

abbrev pub invariant-loop-name : goal.invariant-loop-name
invariant-loop-name l = (done : Pairs) × record {
  parts : pairs l.members ≡ done ++ left l.name-iterator;
  index : l.index ≡ length done;
  open_is : IsOpen Object l.count (2 * l.count) (pair_keys done) l.fn.bytes.items l.bytes.items;
}
