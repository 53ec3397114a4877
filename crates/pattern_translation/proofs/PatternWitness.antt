-- A text has one tree, so what is known of the tree that was read is known of each.
use Rattle.std.proofs.Common.{◌≡◌, true, false, Option, Some, None, IfNone, ap, sym, ◌∙◌}
use Rattle.std.specs.Prelude.{String, option_map}
use Rattle.std.specs.declared.alloc.Global.{Global}
use Rattle.pattern_model.specs.Text.{Text}
use Rattle.pattern_model.specs.Tree.{Tree}
use Rattle.pattern_model.specs.Grammar.{Grammar}
use Rattle.pattern_tree.proofs.Leads.{one_spelled}
use Rattle.pattern_translation.specs.declared.facts.Facts as rust
use Rattle.pattern_translation.specs.declared.refusal.Cause as cause
use Rattle.pattern_translation.specs.Causes.{cause_of}
use Rattle.pattern_translation.specs.Facts.{AreOf}
use Rattle.rust_pattern_model.specs.Refusals.{refusal, is_vague}
use Rattle.pattern_translation.specs.Texts.{text_of}
use Rattle.pattern_translation.specs.Witness.{witness}

pub same_tree : (x : Text) (t u : Tree) → Grammar true x t → Grammar true x u → t ≡ u
same_tree x t u g h = one_spelled true x t u g.spells h.spells

-- a part without a told meaning
pub vague_tree : (x : Text) (t u : Tree) (f : rust.Facts) → Grammar true x t → Grammar true x u → AreOf f u → f.vague ≡ true →
    is_vague t ≡ false → ⊥
vague_tree x t u f g h a v n =
    let k : true ≡ false = sym v ∙ (a.vague ∙ (ap is_vague (sym (same_tree x t u g h)) ∙ n)) in cc

-- a cause of refusal
pub refused_tree : (x : Text) (t u : Tree) (o : Option cause.Cause) (c : cause.Cause) → Grammar true x t → Grammar true x u →
    option_map cause_of o ≡ refusal x u → o ≡ Some c → refusal x t ≡ None → ⊥
refused_tree x t u o c g h e f n =
    let k : option_map cause_of (Some c) ≡ None =
    ap (option_map cause_of) (sym f) ∙ (e ∙ (ap (refusal x) (sym (same_tree x t u g h)) ∙ n)) in cc

-- a tree without a witness
pub no_witness : (x : Text) (u : Tree) (o : Option (String Global)) → Grammar true x u → text_of o ≡ witness u →
    IfNone o ((t : Tree) → Grammar true x t → refusal x t ≡ None → is_vague t ≡ false → witness t ≡ None)
no_witness x u None h e = λ t g r v. ap witness (same_tree x t u g h) ∙ sym e
no_witness x u (Some s) h e = tt
