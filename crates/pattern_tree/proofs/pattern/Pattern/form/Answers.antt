use Rattle.std.proofs.Common.{sym, subst}
use Rattle.pattern_tree.specs.Forms.{IsForm}
use Rattle.pattern_tree.specs.FormPlaces.{FormStands}
use Rattle.pattern_tree.proofs.FormLaws.{form_at, form_stands}
use Rattle.pattern_tree.proofs.pattern.Pattern.form.Goals as goal

pub returns-clause-form : goal.returns-clause-form
returns-clause-form c =
    subst (IsForm c.args.self.now c.args.id) (sym c.form_of.ensures) (form_at c.args.self.now c.args.id c.index.result.now c.requires
    c.index.ensures)

pub returns-clause-places : goal.returns-clause-places
returns-clause-places c = λ wide x bytes s.
    subst (FormStands wide x c.args.self.now c.args.id) (sym c.form_of.ensures)
    (form_stands c.args.self.now c.args.id c.index.result.now c.requires c.index.ensures wide x bytes s)
