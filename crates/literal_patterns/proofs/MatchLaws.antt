-- An analysis hits where the tree of its pattern matches, whichever tree the pattern has.
use Rattle.std.proofs.Common.{false, subst}
use Rattle.std.specs.Prelude.{◌↔◌}
use Rattle.pattern_model.specs.Text.{Text}
use Rattle.pattern_model.specs.Tree.{Tree}
use Rattle.pattern_model.specs.Grammar.{Grammar}
use Rattle.pattern_model.specs.Matches.{MatchesSome}
use Rattle.pattern_model.specs.Literals.{Analysis, IsAnalysis, Hits}
use Rattle.pattern_model.proofs.LiteralMatches.{literal_matches}
use Rattle.pattern_tree.proofs.Leads.{one_spelled}

pub keeps_matches : (x : Text) (a : Analysis) (t : Tree) → IsAnalysis x a → Grammar false x t → (y : Text) → Hits a y ↔ MatchesSome t y
keeps_matches x a t h g y =
    let m = literal_matches x a h in
    subst (λ u. Hits a y ↔ MatchesSome u y) (one_spelled false x m.tree t m.has.0.spells g.spells) (m.same y)
