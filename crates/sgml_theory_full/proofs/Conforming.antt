-- Events that may be written are read.
use Rattle.std.proofs.Common.{◌≡◌, ℕ, Bool, true, false, not, ◌||◌, ◌==◌, List, [], ◌∷◌, Option, Some, None, unwrap_or, length, refl, sym, ◌∙◌, ap, subst, if◌then◌else◌, arith}
use Rattle.std.specs.List.{list_any}
use Rattle.std.proofs.lemmas.Bool.{eqb-true}
use Rattle.sgml_theory_values.specs.records.Items.{Data as DataItem}
use Rattle.sgml_theory_values.specs.records.Facts.{Facts, noted, all_noted}
use Rattle.sgml_theory_values.specs.shortref.Maps.{number_in}
use Rattle.sgml_theory_values.specs.delim.declared.delim.Mode.{Mode}
use Rattle.sgml_theory_values.specs.delim.declared.delim.Mode.TheVariants as mode
use Rattle.sgml_theory_values.specs.dtd_maps.declared.uses.MapOf.{MapOf}
use Rattle.sgml_theory_values.specs.dtd_maps.declared.uses.MapOf.TheVariants as map_of
use Rattle.sgml_theory_values.specs.dtd_maps.declared.uses.MapUse.{MapUse}
use Rattle.sgml_theory_values.specs.dtd_maps.Tables.{first_use, map_by, map_used, numbered_map}
use Rattle.sgml_theory_values.specs.decl_forms.declared.map.UsedMap.{UsedMap}
use Rattle.sgml_theory_values.specs.decl_forms.declared.map.UsedMap.TheVariants as used
use Rattle.sgml_theory_values.specs.dtd.Doctypes.{Doctype}
use Rattle.sgml_theory_values.specs.theory_reading.Names.{Name, Text}
use Rattle.sgml_theory_values.specs.theory_reading.Types.{map_of_type}
use Rattle.sgml_theory_values.specs.theory_reading.Pieces.{Piece, Kind, Start, End, Char, Data, DataRef, Pi, Tag, Specification}
use Rattle.sgml_theory_values.specs.theory_reading.Facets.{AfterSubset, Effect, Opens, Closes, Stays, effect, items_of, NoBorder, border, map_set, stage_after, declares}
use Rattle.sgml_theory_values.specs.theory_reading.Context.{Level, context_after, levels_after, levels_with}
use Rattle.sgml_theory_values.specs.theory_reading.Maps.{map_in_force, setting_or, first_set, settings_after}
use Rattle.sgml_theory_values.specs.theory_reading.Sections.{sections_after}
use Rattle.sgml_theory_values.specs.theory_reading.ShortTags.{net_in_force}
use Rattle.sgml_theory_values.specs.theory_reading.Unread.{Outside}
use Rattle.sgml_theory_values.specs.theory_reading.State.{State, after_piece, ends_after, first_noted}
use Rattle.sgml_theory_values.specs.theory_spelling.Places.{in_doctype, section_mode, mode_at, map_at, is_map}
use Rattle.sgml_theory_full.specs.Named.{AllAre}
use Rattle.sgml_theory_full.specs.Points.{Point, IsInContent, MapsAreDeclared}
use Rattle.sgml_theory_full.specs.Conforming.{IsPlain, mode_in}
use Rattle.sgml_theory_full.proofs.Plain.{true-false}

-- THE POINT in the document, in content of the innermost element
abbrev pub point : Outside → State → ℕ → Point
point outside s spent = record { outside = outside; state = s; entity = 0; below = []; spent = spent }

-- no section is open there, NET isn't enabled, and no map was set; a record end may wait
pub record Settled (s : State) : Type 0 where
  pub over : s.stage ≡ AfterSubset
  pub no_section : s.sections ≡ []
  pub no_net : AllAre (λ (l : Level). l.slash ≡ false) s.context.levels
  pub no_setting : AllAre (λ (m : MapOf). m ≡ map_of.Parent) s.map_settings

pub settled : (s : State) → IsPlain s → Settled s
settled s h = record { over = h.over; no_section = h.no_section; no_net = h.no_net; no_setting = h.no_setting }

no-net : (ls : List Level) → AllAre (λ (l : Level). l.slash ≡ false) ls → list_any (λ (l : Level). l.slash) ls ≡ false
no-net [] h = refl
no-net (l ∷ ls) h = ap (λ t. t || list_any (λ (l : Level). l.slash) ls) h.0 ∙ no-net ls h.1

pub settled-content : (outside : Outside) (s : State) (spent : ℕ) (m : Mode) → Settled s → mode_in s ≡ m → IsInContent (point outside s spent) m
unfolding mode_at net_in_force
settled-content outside s spent m h k = record {
  in_instance = ap (λ g. in_doctype g (0 ∷ [])) h.over;
  mode = ap (λ ss. unwrap_or (section_mode ss) (if in_doctype s.stage (0 ∷ []) then mode.Ds else mode_in s)) h.no_section
      ∙ ap (λ g. if in_doctype g (0 ∷ []) then mode.Ds else mode_in s) h.over
      ∙ k;
  no_net = no-net s.context.levels h.no_net;
}

pub in-content : (outside : Outside) (s : State) (spent : ℕ) (m : Mode) → IsPlain s → mode_in s ≡ m → IsInContent (point outside s spent) m
in-content outside s spent m h k = settled-content outside s spent m (settled s h) k

-- A MAP IN FORCE is that of an element type, which is declared (11.6)
no-named : (maps : List (Name × List (ℕ × Name))) (name : Name) → (length maps == 0) ≡ true → number_in maps name ≡ None
no-named [] name h = refl
no-named (m ∷ ms) name h = absurd (omega (arith, eqb-true (length (m ∷ ms)) 0 h))

no-used : (maps : List (Name × List (ℕ × Name))) (u : Option MapUse) → (length maps == 0) ≡ true → is_map (map_by maps u) ≡ false
no-used maps None h = refl
no-used maps (Some u) h = by-map u.map
  where
    by-map : (m : UsedMap) → is_map (map_used maps m) ≡ false
    by-map used.Empty = refl
    by-map (used.Named name) = ap (λ o. is_map (numbered_map o)) (no-named maps name h)

no-type-map : (d : Doctype) (n : Name) → (length d.maps == 0) ≡ true → is_map (map_of_type d n) ≡ false
unfolding map_of_type
no-type-map d n h = no-used d.maps (first_use d.uses n) h

or-next : (a b : MapOf) → is_map a ≡ false → is_map b ≡ false → is_map (setting_or a b) ≡ false
or-next map_of.Parent b h k = k
or-next map_of.Empty b h k = refl
or-next (map_of.Map n) b h k = h

none-in-force : (d : Doctype) (ls : List Level) (settings : List MapOf) → (length d.maps == 0) ≡ true → AllAre (λ (m : MapOf). m ≡ map_of.Parent) settings → is_map (map_in_force d ls settings) ≡ false
none-in-force d [] settings h k = refl
none-in-force d (l ∷ ls) [] h k = refl
none-in-force d (l ∷ ls) (m ∷ ms) h k =
    or-next m (setting_or (map_of_type d l.element) (map_in_force d ls ms)) (ap is_map k.0)
    (or-next (map_of_type d l.element) (map_in_force d ls ms) (no-type-map d l.element h) (none-in-force d ls ms h k.1))

has-map : (d : Doctype) (none : Bool) (t : Bool) → (length d.maps == 0) ≡ none → (none ≡ true → t ≡ false) → t ≡ true → not none ≡ true
has-map d true t e h k = true-false (sym k ∙ h refl)
has-map d false t e h k = refl

pub maps-declared : (outside : Outside) (s : State) (spent : ℕ) → IsPlain s → MapsAreDeclared (point outside s spent)
unfolding map_at
maps-declared outside s spent h =
    has-map s.context.doctype (length s.context.doctype.maps == 0) (is_map (map_in_force s.context.doctype s.context.levels s.map_settings)) refl
    (λ e. none-in-force s.context.doctype s.context.levels s.map_settings e h.no_setting)

-- WHAT STAYS PLAIN: pieces that open nothing but elements, and set nothing

abbrev pub NoSlash : Effect → Type 0
NoSlash (Opens n slash) = slash ≡ false
NoSlash e = Unit {0}

pub record Plainly (k : Kind) : Type 0 where
  pub stage : stage_after k AfterSubset ≡ AfterSubset
  pub no_border : border k ≡ NoBorder
  pub no_map : map_set k ≡ map_of.Parent
  pub quiet : (f : Facts) → f.waiting ≡ false → (all_noted f (items_of k)).waiting ≡ false
  pub no_slash : NoSlash (effect k)
  pub types : (d : Doctype) → declares k d ≡ d

abbrev SlashFree : List Level → Type 0
SlashFree ls = AllAre (λ (l : Level). l.slash ≡ false) ls

with-kind : (k : Kind) (ls : List Level) → SlashFree ls → SlashFree (levels_with k ls)
with-kind k [] h = tt
with-kind k (l ∷ ls) h = (h.0, h.1)

slash-after : (d : Doctype) (e : Effect) (k : Kind) (ls : List Level) → NoSlash e → SlashFree ls → SlashFree (levels_after d e k ls)
slash-after d (Opens n slash) k ls e h = (e, with-kind k ls h)
slash-after d Closes k [] e h = tt
slash-after d Closes k (l ∷ ls) e h = h.1
slash-after d Stays k ls e h = with-kind k ls h

abbrev AllParents : List MapOf → Type 0
AllParents ms = AllAre (λ (m : MapOf). m ≡ map_of.Parent) ms

parent-first : (k : Kind) (ms : List MapOf) → map_set k ≡ map_of.Parent → AllParents ms → AllParents (first_set (map_set k) ms)
parent-first k [] e h = tt
parent-first k (m ∷ ms) e h = (ap (λ x. setting_or x m) e ∙ h.0, h.1)

settings-stay : (e : Effect) (k : Kind) (ms : List MapOf) → map_set k ≡ map_of.Parent → AllParents ms → AllParents (settings_after e k ms)
settings-stay (Opens n slash) k ms e h = (refl, parent-first k ms e h)
settings-stay Closes k [] e h = tt
settings-stay Closes k (m ∷ ms) e h = h.1
settings-stay Stays k ms e h = parent-first k ms e h

abbrev NoneWaits : List Facts → Type 0
NoneWaits fs = AllAre (λ (f : Facts). f.waiting ≡ false) fs

quiet-first : (k : Kind) (fs : List Facts) → ((f : Facts) → f.waiting ≡ false → (all_noted f (items_of k)).waiting ≡ false) → NoneWaits fs → NoneWaits (first_noted (items_of k) fs)
quiet-first k [] q h = tt
quiet-first k (f ∷ fs) q h = (q f h.0, h.1)

quiet-after : (e : Effect) (k : Kind) (fs : List Facts) → ((f : Facts) → f.waiting ≡ false → (all_noted f (items_of k)).waiting ≡ false) → NoneWaits fs → NoneWaits (ends_after e k fs)
quiet-after (Opens n slash) k fs q h = (refl, quiet-first k fs q h)
quiet-after Closes k [] q h = tt
quiet-after Closes k (f ∷ fs) q h = h.1
quiet-after Stays k fs q h = quiet-first k fs q h

-- the same where a record end may wait
pub record Keeping (k : Kind) : Type 0 where
  pub stage : stage_after k AfterSubset ≡ AfterSubset
  pub no_border : border k ≡ NoBorder
  pub no_map : map_set k ≡ map_of.Parent
  pub no_slash : NoSlash (effect k)
  pub types : (d : Doctype) → declares k d ≡ d

pub stays-settled : (p : Piece) (s : State) → Keeping p.kind → Settled s → Settled (after_piece p s)
unfolding after_piece context_after
stays-settled p s q h = record {
  over = ap (stage_after p.kind) h.over ∙ q.stage;
  no_section = ap (λ b. sections_after b s.texts s.sections) q.no_border ∙ h.no_section;
  no_net = slash-after s.context.doctype (effect p.kind) p.kind s.context.levels q.no_slash h.no_net;
  no_setting = settings-stay (effect p.kind) p.kind s.map_settings q.no_map h.no_setting;
}

pub stays-plain : (p : Piece) (s : State) → Plainly p.kind → IsPlain s → IsPlain (after_piece p s)
unfolding after_piece context_after
stays-plain p s q h = record {
  over = ap (stage_after p.kind) h.over ∙ q.stage;
  no_section = ap (λ b. sections_after b s.texts s.sections) q.no_border ∙ h.no_section;
  no_net = slash-after s.context.doctype (effect p.kind) p.kind s.context.levels q.no_slash h.no_net;
  no_setting = settings-stay (effect p.kind) p.kind s.map_settings q.no_map h.no_setting;
  none_waits = quiet-after (effect p.kind) p.kind s.record_ends q.quiet h.none_waits;
}

pub same-types : (p : Piece) (s : State) → Plainly p.kind → (after_piece p s).context.doctype ≡ s.context.doctype
unfolding after_piece context_after
same-types p s q = q.types s.context.doctype

-- the pieces of events
data-plainly : (k : Kind) → stage_after k AfterSubset ≡ AfterSubset → border k ≡ NoBorder → map_set k ≡ map_of.Parent → items_of k ≡ DataItem ∷ [] → effect k ≡ Stays → ((d : Doctype) → declares k d ≡ d) → Plainly k
unfolding noted
data-plainly k a b c i e t = record {
  stage = a;
  no_border = b;
  no_map = c;
  quiet = λ f h. ap (λ is. (all_noted f is).waiting) i;
  no_slash = subst NoSlash (sym e) tt;
  types = t;
}

pub char-plainly : (b : ℕ) → Plainly (Char b)
unfolding stage_after border map_set items_of effect declares
char-plainly b = data-plainly (Char b) refl refl refl refl refl (λ d. refl)

pub specific-plainly : (e : ℕ) → Plainly (Data e)
unfolding stage_after border map_set items_of effect declares
specific-plainly e = data-plainly (Data e) refl refl refl refl refl (λ d. refl)

pub external-plainly : (e : ℕ) → Plainly (DataRef e)
unfolding stage_after border map_set items_of effect declares
external-plainly e = data-plainly (DataRef e) refl refl refl refl refl (λ d. refl)

pub instruction-plainly : (text : Text) (e : Option ℕ) → Plainly (Pi text e)
unfolding stage_after border map_set items_of effect declares noted
instruction-plainly text e = record { stage = refl; no_border = refl; no_map = refl; quiet = λ f h. h; no_slash = tt; types = λ d. refl }

pub end-plainly : (n : Name) → Plainly (End n Tag)
unfolding stage_after border map_set items_of effect declares
end-plainly n = record { stage = refl; no_border = refl; no_map = refl; quiet = λ f h. h; no_slash = tt; types = λ d. refl }

pub start-plainly : (n : Name) (ss : List Specification) (proper once : Bool) → Plainly (Start n ss Tag proper once)
unfolding stage_after border map_set items_of effect declares noted
start-plainly n ss true true = record { stage = refl; no_border = refl; no_map = refl; quiet = λ f h. refl; no_slash = tt; types = λ d. refl }
start-plainly n ss true false = record { stage = refl; no_border = refl; no_map = refl; quiet = λ f h. refl; no_slash = refl; types = λ d. refl }
start-plainly n ss false true = record { stage = refl; no_border = refl; no_map = refl; quiet = λ f h. h; no_slash = tt; types = λ d. refl }
start-plainly n ss false false = record { stage = refl; no_border = refl; no_map = refl; quiet = λ f h. h; no_slash = refl; types = λ d. refl }
