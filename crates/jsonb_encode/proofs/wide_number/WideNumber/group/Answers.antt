use Rattle.jsonb_encode.specs.inner.Wide.{size}
use Rattle.jsonb_encode.proofs.WideDigits.{group_is}
use Rattle.jsonb_encode.proofs.wide_number.WideNumber.group.Goals as goal

pub returns : goal.returns
returns c =
    group_is (size c.args.self.now) c.args.place c.digit.result c.digit-2.result c.digit-3.result c.digit-4.result
    c.digit.ensures c.digit-2.ensures c.digit-3.ensures c.digit-4.ensures
