-- What the code's values are to the definitions.
use Rattle.std.specs.Prelude.{ℕ, List}
use Rattle.std.specs.Borrow.{Bor}
use Rattle.jsonb_layout.specs.Layout.{Item}
use Rattle.jsonb_layout.specs.declared.form.Form.{Form}
use Rattle.jsonb_layout.specs.inner.Reading.{Place}
use Rattle.jsonb.specs.declared.found.Found.{Found}
use Rattle.jsonb.specs.declared.items.Items.{Items}
use Rattle.jsonb.specs.declared.opening.Opened.{Opened}
use Rattle.jsonb.specs.declared.place.Place.{Place as Here}

-- a place of the code, without the proofs that it holds
abbrev pub place : Here → Place
place p = record { index = p.index; at = p.at; words = p.words.now; rest = p.rest.now }

abbrev pub item_then_place : Item × Here → Item × Place
item_then_place r = (r.0, place r.1)

abbrev pub piece_then_place : Bor (List ℕ) × Here → List ℕ × Place
piece_then_place r = (r.0.now, place r.1)

abbrev pub found_then_place : Found × Here → Found × Place
found_then_place r = (r.0, place r.1)

abbrev pub open_view : Opened → Form × ℕ × Place
open_view o = (o.form, o.count, place o.start)

abbrev pub form_then_place : Form × Items → Form × ℕ × Place
form_then_place r = (r.0, r.1.count, place r.1.start)
