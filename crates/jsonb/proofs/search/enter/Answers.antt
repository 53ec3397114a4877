use Rattle.jsonb.specs.inner.Views.{place}
use Rattle.jsonb.proofs.FrameLaws.{opened_as, not_opened, lone_found, array_flat}
use Rattle.jsonb.proofs.EnterLaws.{array_entered, array_weight, object_entered, object_weight, object_scalars}
use Rattle.jsonb.proofs.search.enter.Goals as goal

pub returns-in_default-clause-found : goal.returns-in_default-clause-found
returns-in_default-clause-found c = not_opened c.args.bytes.now c.in_default.ensures

pub returns-in-Array-clause-found : goal.returns-in-Array-clause-found
returns-in-Array-clause-found c = array_entered c.args.bytes.now (record { left = c.in-Some.opened.count; start = c.in-Some.opened.start })
    (opened_as c.args.bytes.now c.in-Array.is c.in-Some.ensures) c.args.found.now

pub returns-in-Array-clause-weight : goal.returns-in-Array-clause-weight
returns-in-Array-clause-weight c = λ _. array_weight c.args.bytes.now (record { left = c.in-Some.opened.count; start = c.in-Some.opened.start })
    (opened_as c.args.bytes.now c.in-Array.is c.in-Some.ensures)

pub returns-in-Array-clause-flat : goal.returns-in-Array-clause-flat
returns-in-Array-clause-flat c =
    λ _ t is low. array_flat c.args.bytes.now t is low _ _ (opened_as c.args.bytes.now c.in-Array.is c.in-Some.ensures)

pub returns-in-Lone-clause-found : goal.returns-in-Lone-clause-found
returns-in-Lone-clause-found c = lone_found c.args.bytes.now _ _ (opened_as c.args.bytes.now c.in-Lone.is c.in-Some.ensures)

pub returns-in-Object-clause-found : goal.returns-in-Object-clause-found
returns-in-Object-clause-found c =
    object_entered c.args.bytes.now (place c.in-Some.opened.start) (record { left = c.in-Some.opened.count; start = c.key_faults.new.here })
    c.args.found.now c.key_faults.new.found (opened_as c.args.bytes.now c.in-Object.is c.in-Some.ensures) c.key_faults.result c.key_faults.ensures

pub returns-in-Object-clause-weight : goal.returns-in-Object-clause-weight
returns-in-Object-clause-weight c is =
    object_weight c.args.bytes.now (place c.in-Some.opened.start) (record { left = c.in-Some.opened.count; start = c.key_faults.new.here })
    c.args.found.now c.key_faults.new.found (opened_as c.args.bytes.now c.in-Object.is c.in-Some.ensures) c.key_faults.result is c.key_faults.ensures

pub returns-in-Object-clause-flat : goal.returns-in-Object-clause-flat
returns-in-Object-clause-flat c is =
    object_scalars c.args.bytes.now (place c.in-Some.opened.start) (record { left = c.in-Some.opened.count; start = c.key_faults.new.here })
    c.args.found.now c.key_faults.new.found (opened_as c.args.bytes.now c.in-Object.is c.in-Some.ensures) c.key_faults.result is c.key_faults.ensures
