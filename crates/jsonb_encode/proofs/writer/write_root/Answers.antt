use Rattle.std.proofs.Common.{List, map, ap, subst, ◌∙◌}
use Rattle.std.specs.Prelude.{IfOk, IfErr, string_bytes}
use Rattle.json_model.specs.Parts.{elements_from, members_from}
use Rattle.json_model.specs.Tree.{null, boolean, number, string, array}
use Rattle.json_exact.specs.Trees.{tree, pairs}
use Rattle.json_exact.specs.declared.value.Value.{Value}
use Rattle.json_exact.proofs.TreeLaws.{tree-array, tree-object}
use Rattle.jsonb_encode.specs.inner.Writing.{IsWhole, IsUnwritten}
use Rattle.jsonb_encode.proofs.Roots.{scalar_ok, scalar_err, array_ok, array_err, object_ok, object_err}
use Rattle.jsonb_encode.proofs.Written.{tree-null, tree-bool, tree-string, tree-number}
use Rattle.jsonb_encode.proofs.writer.write_root.Goals as goal

pub returns-in-Array-clause-ok : goal.returns-in-Array-clause-ok
returns-in-Array-clause-ok c =
    let v = c.in-Array.elements in
    array_ok c.args.form (tree c.args.value.now) (elements_from (map tree v.items)) c.write_elements.result c.args.bytes.now.items
    c.write_elements.new.bytes.items
    (ap tree c.in-Array.is ∙ tree-array v)
    (subst (λ (vs : List Value). IfOk c.write_elements.result
    (λ _. IsWhole c.args.form (array (elements_from (map tree vs))) c.args.bytes.now.items c.write_elements.new.bytes.items))
    c.as_slice.ensures.value c.write_elements.ensures.ok)

pub returns-in-Array-clause-err : goal.returns-in-Array-clause-err
returns-in-Array-clause-err c =
    let v = c.in-Array.elements in
    array_err c.args.form (tree c.args.value.now) (elements_from (map tree v.items)) c.write_elements.result
    (ap tree c.in-Array.is ∙ tree-array v)
    (subst (λ (vs : List Value). IfErr c.write_elements.result (λ e. IsUnwritten c.args.form (array (elements_from (map tree vs))) e))
    c.as_slice.ensures.value c.write_elements.ensures.err)

pub returns-in-Object-clause-ok : goal.returns-in-Object-clause-ok
returns-in-Object-clause-ok c =
    let m = c.in-Object.members in
    object_ok c.args.form (tree c.args.value.now) (members_from (pairs m)) c.write_members.result c.args.bytes.now.items
    c.write_members.new.bytes.items
    (ap tree c.in-Object.is ∙ tree-object m) c.write_members.ensures.ok

pub returns-in-Object-clause-err : goal.returns-in-Object-clause-err
returns-in-Object-clause-err c =
    let m = c.in-Object.members in
    object_err c.args.form (tree c.args.value.now) (members_from (pairs m)) c.write_members.result
    (ap tree c.in-Object.is ∙ tree-object m) c.write_members.ensures.err

pub returns-in-Null-clause-ok : goal.returns-in-Null-clause-ok
returns-in-Null-clause-ok c =
    scalar_ok c.args.form (tree c.args.value.now) null c.write_lone.result c.args.bytes.now.items c.write_lone.new.bytes.items
    (ap tree c.in-Null.is ∙ tree-null) c.write_lone.ensures.ok

pub returns-in-Null-clause-err : goal.returns-in-Null-clause-err
returns-in-Null-clause-err c =
    scalar_err c.args.form (tree c.args.value.now) null c.write_lone.result (ap tree c.in-Null.is ∙ tree-null) c.write_lone.ensures.err

pub returns-in-Bool-clause-ok : goal.returns-in-Bool-clause-ok
returns-in-Bool-clause-ok c =
    scalar_ok c.args.form (tree c.args.value.now) (boolean c.in-Bool.field-0) c.write_lone-in-Bool.result c.args.bytes.now.items
    c.write_lone-in-Bool.new.bytes.items
    (ap tree c.in-Bool.is ∙ tree-bool c.in-Bool.field-0) c.write_lone-in-Bool.ensures.ok

pub returns-in-Bool-clause-err : goal.returns-in-Bool-clause-err
returns-in-Bool-clause-err c =
    scalar_err c.args.form (tree c.args.value.now) (boolean c.in-Bool.field-0) c.write_lone-in-Bool.result
    (ap tree c.in-Bool.is ∙ tree-bool c.in-Bool.field-0) c.write_lone-in-Bool.ensures.err

pub returns-in-Number-clause-ok : goal.returns-in-Number-clause-ok
returns-in-Number-clause-ok c =
    scalar_ok c.args.form (tree c.args.value.now) (number c.in-Number.field-0) c.write_lone-in-Number.result c.args.bytes.now.items
    c.write_lone-in-Number.new.bytes.items
    (ap tree c.in-Number.is ∙ tree-number c.in-Number.field-0) c.write_lone-in-Number.ensures.ok

pub returns-in-Number-clause-err : goal.returns-in-Number-clause-err
returns-in-Number-clause-err c =
    scalar_err c.args.form (tree c.args.value.now) (number c.in-Number.field-0) c.write_lone-in-Number.result
    (ap tree c.in-Number.is ∙ tree-number c.in-Number.field-0) c.write_lone-in-Number.ensures.err

pub returns-in-String-clause-ok : goal.returns-in-String-clause-ok
returns-in-String-clause-ok c =
    scalar_ok c.args.form (tree c.args.value.now) (string (string_bytes c.in-String.field-0)) c.write_lone-in-String.result
    c.args.bytes.now.items c.write_lone-in-String.new.bytes.items
    (ap tree c.in-String.is ∙ tree-string c.in-String.field-0) c.write_lone-in-String.ensures.ok

pub returns-in-String-clause-err : goal.returns-in-String-clause-err
returns-in-String-clause-err c =
    scalar_err c.args.form (tree c.args.value.now) (string (string_bytes c.in-String.field-0)) c.write_lone-in-String.result
    (ap tree c.in-String.is ∙ tree-string c.in-String.field-0) c.write_lone-in-String.ensures.err
