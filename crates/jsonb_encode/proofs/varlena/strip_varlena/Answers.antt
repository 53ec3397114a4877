use Rattle.std.proofs.Common.{subst}
use Rattle.std.proofs.lemmas.Result.{MatchResult-weaker}
use Rattle.jsonb_encode.specs.Varlena.{IsStripped}
use Rattle.jsonb_encode.proofs.StoredHeaders.{stripped_is}
use Rattle.jsonb_encode.proofs.varlena.strip_varlena.Goals as goal

pub returns : goal.returns
returns c =
    let b = c.args.bytes.now in
    MatchResult-weaker c.read_stored.result c.read_stored.ensures
    (λ _ e. subst (IsStripped b) e (stripped_is b)) (λ _ e. subst (IsStripped b) e (stripped_is b))
