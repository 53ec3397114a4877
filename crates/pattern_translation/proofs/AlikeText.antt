-- The text for Rust of a pattern has a tree that is alike.
use Rattle.std.proofs.Common.{◌≡◌, true, ap, ◌∙◌, subst}
use Rattle.pattern_model.specs.Text.{Text}
use Rattle.pattern_tree.proofs.Leads.{one_spelled}
use Rattle.rust_pattern_model.specs.Refusals.{has_untold_part}
use Rattle.rust_pattern_model.specs.Translation.{Translates}
use Rattle.rust_pattern_model.specs.Alike.{Alike, IsAlike}
use Rattle.rust_pattern_model.proofs.TextReads.{text_read}

pub alike_text : (x w : Text) → Translates x w → IsAlike x w
alike_text x w h t g e =
    let same : h.tree ≡ t = one_spelled true x h.tree t h.grammar.spells g.spells in
    let (u, r, a) = text_read x w h (ap has_untold_part same ∙ e) in
    (u, r, subst (λ z. Alike z u) same a)
