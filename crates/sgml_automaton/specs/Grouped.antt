-- The groups in which the member of a token is looked for.
use Rattle.std.specs.Prelude.{ℕ, Bool, true, false, List, Option}
use Rattle.sgml_model.specs.Term.{Terms}
use Rattle.sgml_automaton.specs.Position.{Bits, rooms, and_rooms}
use Rattle.sgml_automaton.specs.Alike.{shape_last, shape_some, shape_member}
use Rattle.sgml_automaton.specs.declared.same.Grouping.{Grouping}
use Rattle.sgml_automaton.specs.declared.same.Grouping.TheVariants.{Sequence, Choice, And}

-- how many bits stand before each member's own
abbrev pub own_bits : Grouping → ℕ
own_bits Sequence = 0
own_bits Choice = 0
own_bits And = 1

-- no member may stand behind it
abbrev pub must_be_last : Grouping → Bool
must_be_last Sequence = true
must_be_last Choice = false
must_be_last And = false

-- the bits of the members
abbrev pub group_rooms : Grouping → Terms → ℕ
group_rooms Sequence ms = rooms ms
group_rooms Choice ms = rooms ms
group_rooms And ms = and_rooms ms

-- the shape of the member that has the token
abbrev pub group_shape : Grouping → Terms → ℕ → ℕ → Bits → Option (List Bool)
group_shape Sequence ms o k b = shape_last ms o k b
group_shape Choice ms o k b = shape_some ms o k b
group_shape And ms o k b = shape_member ms o k b
