use Rattle.jsonb_encode.proofs.ContentsLaws.{checked_as, checked_numeral, checked_numerals, checked_member, checked_containers, checked_null}
use Rattle.jsonb_encode.proofs.contents.Contents.check.Goals as goal

pub returns-in-Numeral : goal.returns-in-Numeral
returns-in-Numeral c = checked_as c.check_text.result c.args.form c.args.self.now _ c.in-Numeral.is
    (checked_numeral c.check_text.result c.args.form c.in-Numeral.text c.check_text.ensures)

pub returns-in-Numerals : goal.returns-in-Numerals
returns-in-Numerals c =
    checked_as c.check_texts.result c.args.form c.args.self.now _ c.in-Numerals.is
    (checked_numerals c.check_texts.result c.args.form c.in-Numerals.texts c.check_texts.ensures)

pub returns-in-Containers : goal.returns-in-Containers
returns-in-Containers c = checked_containers c.args.form c.args.self.now c.in-Containers.field-0 c.in-Containers.is

pub returns-in-KeyAndNumeral : goal.returns-in-KeyAndNumeral
returns-in-KeyAndNumeral c =
    checked_as c.check_text-in-KeyAndNumeral.result c.args.form c.args.self.now _ c.in-KeyAndNumeral.is
    (checked_member c.check_text-in-KeyAndNumeral.result c.args.form c.in-KeyAndNumeral.field-0 c.in-KeyAndNumeral.text
    c.check_text-in-KeyAndNumeral.ensures)

pub returns-in-KeyAndNull : goal.returns-in-KeyAndNull
returns-in-KeyAndNull c = checked_null c.args.form c.args.self.now c.in-KeyAndNull.field-0 c.in-KeyAndNull.is
