-- Classes, what is written for them, and how Rust's grammar reads that.
use Rattle.std.proofs.Common.{◌≡◌, true, false, [], refl}
use Rattle.std.specs.Prelude.{codes}
use Rattle.ucd_table.specs.Rows.{in_ranges, value_in}
use Rattle.ucd_derived.specs.Binary.{is_alphabetic}
use Rattle.ucd_derived.specs.AlphabeticRanges.{alphabetic_ranges}
use Rattle.ucd_category.specs.GeneralCategory.{general_category}
use Rattle.ucd_category.specs.GeneralCategoryRows.{general_category_rows}
use Rattle.pattern_model.specs.Text.{Text, is_at}
use Rattle.pattern_model.specs.Tree.{Escape}
use Rattle.pattern_model.specs.Digits.{hex}
use Rattle.pattern_model.specs.CodePoints.{code_point}
use Rattle.pattern_model.specs.Letters.{is_alphanumeric}
use Rattle.pattern_model.specs.Escapes.{character_escape, class_escape}
use Rattle.pattern_model.specs.Classes.{Atom, escaped_atom, class_atom, makes_range}
use Rattle.rust_pattern_model.specs.Translation.{WritesPart, WritesItems, WritesClass}
use Rattle.rust_pattern_model.specs.RustClasses.{Items, number_escape, escape, is_operation, BeginsItem, ReadsClass}

begins_by : {y : Text} → is_at 93 y ≡ false → is_operation y ≡ false → BeginsItem y
begins_by e f = record { goes_on = e; no_operation = f }

-- [--a] is written as [\--a]
written_1 : WritesClass (codes "--a]") [] (codes "[\\--a]")
unfolding class_atom escaped_atom class_escape character_escape makes_range is_alphanumeric is_alphabetic in_ranges alphabetic_ranges
    general_category value_in general_category_rows
written_1 = (
  codes "\\--a",
  (WritesItems.goes_on {last = (codes "a]")} {y = (codes "]")} {v = (codes "\\--a")} {u = []} refl
      (WritesPart.range {a = (Atom.code 45)} {b = (Atom.code 97)} {z = (codes "-a]")} {v = (codes "\\-")} {u = (codes "a")} (record {
        own =
            codes "-";
        read = refl;
        stands = refl;
        is = refl;
      }) refl refl refl (record { own = codes "a"; read = refl; stands = refl; is = refl })
      refl) (WritesItems.closes refl refl refl) refl),
  refl,
)

read_1 : ReadsClass (codes "[\\--a]") false (Items.range 45 97 Items.none) []
unfolding escape number_escape code_point hex
read_1 = (codes "\\--a]", (refl, refl), tt, (codes "-a]", codes "]", begins_by refl refl, refl, refl, refl, refl, refl))

-- [+--] is written as [+-\-]
written_2 : WritesClass (codes "+--]") [] (codes "[+-\\-]")
unfolding class_atom escaped_atom class_escape character_escape makes_range is_alphanumeric is_alphabetic in_ranges alphabetic_ranges
    general_category value_in general_category_rows
written_2 = (
  codes "+-\\-",
  (WritesItems.goes_on {last = (codes "-]")} {y = (codes "]")} {v = (codes "+-\\-")} {u = []} refl
      (WritesPart.range {a = (Atom.code 43)} {b = (Atom.code 45)} {z = (codes "--]")} {v = (codes "+")} {u = (codes "\\-")} (record {
        own =
            codes "+";
        read = refl;
        stands = refl;
        is = refl;
      }) refl refl refl (record { own = codes "-"; read = refl; stands = refl; is = refl })
      refl) (WritesItems.closes refl refl refl) refl),
  refl,
)

read_2 : ReadsClass (codes "[+-\\-]") false (Items.range 43 45 Items.none) []
unfolding escape number_escape code_point hex
read_2 = (codes "+-\\-]", (refl, refl), tt, (codes "-\\-]", codes "]", begins_by refl refl, refl, refl, refl, refl, refl))

-- [&&&] is written as [\&\&\&]
written_3 : WritesClass (codes "&&&]") [] (codes "[\\&\\&\\&]")
unfolding class_atom escaped_atom class_escape character_escape makes_range is_alphanumeric is_alphabetic in_ranges alphabetic_ranges
    general_category value_in general_category_rows
written_3 = (
  codes "\\&\\&\\&",
  (WritesItems.goes_on {last = (codes "&&&]")} {y = (codes "&&]")} {v = (codes "\\&")} {u = (codes
      "\\&\\&")} refl (WritesPart.single {a = (Atom.code 38)} (record { own = codes "&"; read = refl; stands = refl; is = refl }) refl refl
      refl) (WritesItems.goes_on {last = (codes "&&]")} {y = (codes "&]")} {v = (codes "\\&")} {u = (codes "\\&")} refl (WritesPart.single
      {a = (Atom.code 38)} (record { own = codes "&"; read = refl; stands = refl; is = refl }) refl refl refl) (WritesItems.goes_on {last =
      (codes "&]")} {y = (codes "]")} {v = (codes "\\&")} {u = []} refl (WritesPart.single {a = (Atom.code 38)} (record {
        own = codes "&";
        read = refl;
        stands = refl;
        is = refl;
      }) refl refl refl) (WritesItems.closes refl refl refl) refl) refl) refl),
  refl,
)

read_3 : ReadsClass (codes "[\\&\\&\\&]") false (Items.one 38 (Items.one 38 (Items.one 38 Items.none))) []
unfolding escape number_escape code_point hex
read_3 = (
  codes "\\&\\&\\&]",
  (refl, refl),
  tt,
  (
    codes "\\&\\&]",
    begins_by refl refl,
    refl,
    refl,
    (
      codes "\\&]",
      begins_by refl refl,
      refl,
      refl,
      (
        codes "]",
        begins_by refl refl,
        refl,
        refl,
        refl,
      ),
    ),
  ),
)

-- [&-&] is written as [&-&]
written_4 : WritesClass (codes "&-&]") [] (codes "[&-&]")
unfolding class_atom escaped_atom class_escape character_escape makes_range is_alphanumeric is_alphabetic in_ranges alphabetic_ranges
    general_category value_in general_category_rows
written_4 = (
  codes "&-&",
  (WritesItems.goes_on {last = (codes "&]")} {y = (codes "]")} {v = (codes "&-&")} {u = []} refl (WritesPart.range
      {a = (Atom.code 38)} {b = (Atom.code 38)} {z = (codes "-&]")} {v = (codes "&")} {u = (codes "&")} (record {
        own = codes "&";
        read =
            refl;
        stands = refl;
        is = refl;
      }) refl refl refl (record { own = codes "&"; read = refl; stands = refl; is = refl }) refl)
      (WritesItems.closes refl refl refl) refl),
  refl,
)

read_4 : ReadsClass (codes "[&-&]") false (Items.range 38 38 Items.none) []
unfolding escape number_escape code_point hex
read_4 = (codes "&-&]", (refl, refl), tt, (codes "-&]", codes "]", begins_by refl refl, refl, refl, refl, refl, refl))

-- [\&&] is written as [\&&]
written_5 : WritesClass (codes "\\&&]") [] (codes "[\\&&]")
unfolding class_atom escaped_atom class_escape character_escape makes_range is_alphanumeric is_alphabetic in_ranges alphabetic_ranges
    general_category value_in general_category_rows
written_5 = (
  codes "\\&&",
  (WritesItems.goes_on {last = (codes "\\&&]")} {y = (codes "&]")} {v = (codes "\\&")} {u = (codes "&")} refl
      (WritesPart.single {a = (Atom.code 38)} (record { own = codes "\\&"; read = refl; stands = refl; is = refl }) refl refl refl)
      (WritesItems.goes_on {last = (codes "&]")} {y = (codes "]")} {v = (codes "&")} {u = []} refl (WritesPart.single {a = (Atom.code 38)}
      (record { own = codes "&"; read = refl; stands = refl; is = refl }) refl refl refl) (WritesItems.closes refl refl refl) refl) refl),
  refl,
)

read_5 : ReadsClass (codes "[\\&&]") false (Items.one 38 (Items.one 38 Items.none)) []
unfolding escape number_escape code_point hex
read_5 = (codes "\\&&]", (refl, refl), tt, (codes "&]", begins_by refl refl, refl, refl, (codes "]", begins_by refl refl, refl, refl, refl)))

-- [\w--] is written as [[A-Za-z0-9_]\-\-]
written_6 : WritesClass (codes "\\w--]") [] (codes "[[A-Za-z0-9_]\\-\\-]")
unfolding class_atom escaped_atom class_escape character_escape makes_range is_alphanumeric is_alphabetic in_ranges alphabetic_ranges
    general_category value_in general_category_rows
written_6 = (
  codes "[A-Za-z0-9_]\\-\\-",
  (WritesItems.goes_on {last = (codes "-]")} {y = (codes "]")} {v = (codes "[A-Za-z0-9_]\\-\\-")}
      {u = []} refl (WritesPart.hyphens {a = (Atom.escape Escape.word)} {z = (codes "--]")} {v = (codes "[A-Za-z0-9_]")} {u = (codes "\\-")}
      {t = (codes "\\-")} (record { own = codes "\\w"; read = refl; stands = refl; is = refl }) refl (record {
        own = codes "-";
        read = refl;
        stands = refl;
        is = refl;
      }) (record { own = codes "-"; read = refl; stands = refl; is = refl }) refl) (WritesItems.closes refl refl
      refl) refl),
  refl,
)

read_6 : ReadsClass (codes "[[A-Za-z0-9_]\\-\\-]") false (Items.nested false (Items.range 65 90 (Items.range 97 122 (Items.range 48 57
    (Items.one 95 Items.none)))) (Items.one 45 (Items.one 45 Items.none))) []
unfolding escape number_escape code_point hex
read_6 = (
  codes "[A-Za-z0-9_]\\-\\-]",
  (refl, refl),
  tt,
  (
    codes "A-Za-z0-9_]\\-\\-]",
    codes "\\-\\-]",
    begins_by refl refl,
    (refl, refl),
    tt,
    (
      codes
          "-Za-z0-9_]\\-\\-]",
      codes "a-z0-9_]\\-\\-]",
      begins_by refl refl,
      refl,
      refl,
      refl,
      refl,
      (
        codes "-z0-9_]\\-\\-]",
        codes "0-9_]\\-\\-]",
        begins_by refl refl,
        refl,
        refl,
        refl,
        refl,
        (
          codes "-9_]\\-\\-]",
          codes "_]\\-\\-]",
          begins_by refl refl,
          refl,
          refl,
          refl,
          refl,
          (
            codes "]\\-\\-]",
            begins_by refl refl,
            refl,
            refl,
            refl,
          ),
        ),
      ),
    ),
    (codes "\\-]", begins_by refl refl, refl, refl, (codes "]", begins_by refl refl, refl, refl, refl)),
  ),
)

-- [[[] is written as [\[\[]
written_7 : WritesClass (codes "[[]") [] (codes "[\\[\\[]")
unfolding class_atom escaped_atom class_escape character_escape makes_range is_alphanumeric is_alphabetic in_ranges alphabetic_ranges
    general_category value_in general_category_rows
written_7 = (
  codes "\\[\\[",
  (WritesItems.goes_on {last = (codes "[[]")} {y = (codes "[]")} {v = (codes "\\[")} {u = (codes "\\[")} refl
      (WritesPart.single {a = (Atom.code 91)} (record { own = codes "["; read = refl; stands = refl; is = refl }) refl refl refl)
      (WritesItems.goes_on {last = (codes "[]")} {y = (codes "]")} {v = (codes "\\[")} {u = []} refl (WritesPart.single {a = (Atom.code 91)}
      (record { own = codes "["; read = refl; stands = refl; is = refl }) refl refl refl) (WritesItems.closes refl refl refl) refl) refl),
  refl,
)

read_7 : ReadsClass (codes "[\\[\\[]") false (Items.one 91 (Items.one 91 Items.none)) []
unfolding escape number_escape code_point hex
read_7 = (codes "\\[\\[]", (refl, refl), tt, (codes "\\[]", begins_by refl refl, refl, refl, (codes "]", begins_by refl refl, refl, refl, refl)))

-- [^-a] is written as [^-a]
written_8 : WritesClass (codes "^-a]") [] (codes "[^-a]")
unfolding class_atom escaped_atom class_escape character_escape makes_range is_alphanumeric is_alphabetic in_ranges alphabetic_ranges
    general_category value_in general_category_rows
written_8 = (
  codes "-a",
  (WritesItems.goes_on {last = (codes "-a]")} {y = (codes "a]")} {v = (codes "-")} {u = (codes "a")} refl
      (WritesPart.single {a = (Atom.code 45)} (record { own = codes "-"; read = refl; stands = refl; is = refl }) refl refl refl)
      (WritesItems.goes_on {last = (codes "a]")} {y = (codes "]")} {v = (codes "a")} {u = []} refl (WritesPart.single {a = (Atom.code 97)}
      (record { own = codes "a"; read = refl; stands = refl; is = refl }) refl refl refl) (WritesItems.closes refl refl refl) refl) refl),
  refl,
)

read_8 : ReadsClass (codes "[^-a]") true (Items.one 45 (Items.one 97 Items.none)) []
unfolding escape number_escape code_point hex
read_8 = (codes "-a]", refl, tt, (codes "a]", begins_by refl refl, refl, refl, (codes "]", begins_by refl refl, refl, refl, refl)))

-- [a-] is written as [a-]
written_9 : WritesClass (codes "a-]") [] (codes "[a-]")
unfolding class_atom escaped_atom class_escape character_escape makes_range is_alphanumeric is_alphabetic in_ranges alphabetic_ranges
    general_category value_in general_category_rows
written_9 = (
  codes "a-",
  (WritesItems.goes_on {last = (codes "a-]")} {y = (codes "-]")} {v = (codes "a")} {u = (codes "-")} refl
      (WritesPart.single {a = (Atom.code 97)} (record { own = codes "a"; read = refl; stands = refl; is = refl }) refl refl refl)
      (WritesItems.goes_on {last = (codes "-]")} {y = (codes "]")} {v = (codes "-")} {u = []} refl (WritesPart.single {a = (Atom.code 45)}
      (record { own = codes "-"; read = refl; stands = refl; is = refl }) refl refl refl) (WritesItems.closes refl refl refl) refl) refl),
  refl,
)

read_9 : ReadsClass (codes "[a-]") false (Items.one 97 (Items.one 45 Items.none)) []
unfolding escape number_escape code_point hex
read_9 = (codes "a-]", (refl, refl), tt, (codes "-]", begins_by refl refl, refl, refl, (codes "]", begins_by refl refl, refl, refl, refl)))
