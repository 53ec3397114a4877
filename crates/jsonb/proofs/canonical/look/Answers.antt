use Rattle.std.proofs.Common.{refl, arith}
use Rattle.json_model.specs.Tree.{null, boolean}
use Rattle.std.proofs.Common.{true, false}
use Rattle.jsonb.specs.declared.kind.Kind.TheVariants as kinds
use Rattle.jsonb.proofs.CanonicalLaws.{looked_string, looked_empty, looked_inside}
use Rattle.jsonb.proofs.canonical.look.Goals as goal

pub returns-in-String : goal.returns-in-String
returns-in-String c = looked_string c.args.node c.args.pending.now.items c.in-String.is

pub returns-in-False : goal.returns-in-False
returns-in-False c =
    looked_empty c.args.node c.args.pending.now.items _ kinds.False (boolean false) c.in-False.is (omega arith) (omega arith) (refl, refl)
    c.is_empty-empty.ensures

pub returns-in-True : goal.returns-in-True
returns-in-True c =
    looked_empty c.args.node c.args.pending.now.items _ kinds.True (boolean true) c.in-True.is (omega arith) (omega arith) (refl, refl)
    c.is_empty-empty.ensures

pub returns-in-Null : goal.returns-in-Null
returns-in-Null c =
    looked_empty c.args.node c.args.pending.now.items _ kinds.Null null c.in-Null.is (omega arith) (omega arith) (refl, refl)
    c.is_empty-empty.ensures

pub returns-in_ok-put_off-in-Container : goal.returns-in_ok-put_off-in-Container
returns-in_ok-put_off-in-Container c =
    looked_inside c.args.node c.args.pending.now.items c.put_off.new.pending.items c.values_in.result c.in-Container.is
    c.in_ok-put_off-in-Container.ensures c.values_in.ensures.canonical c.values_in.ensures.weight
