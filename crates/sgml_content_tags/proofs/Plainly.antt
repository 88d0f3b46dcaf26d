-- Tags that are taken where they plainly may stand: the token that stands there, its type, and the step that it is.
use Rattle.std.specs.Prelude.{◌≡◌, ℕ, ◌+◌, ◌<◌, ◌≤◌, ◌^◌, ◌==◌, ◌++◌, ◌∷◌, Bool, true, false, not, List, [], length, take, Option, None, Some, Ok, if◌then◌else◌, slice_get}
use Rattle.std.proofs.Common.{refl, sym, ap, ◌∙◌, subst, arith}
use Rattle.std.proofs.lemmas.List.{length-take}
use Rattle.sgml_text.specs.declared.place.Place.{Place}
use Rattle.sgml_entity.specs.Stack.{offset_of}
use Rattle.sgml_scan.specs.declared.state.ScanState.{ScanState}
use Rattle.sgml_scan.specs.declared.state.Token.{Token}
use Rattle.sgml_scan.specs.Tokens.{token, IsScanned}
use Rattle.sgml_syntax.specs.declared.syntax.Syntax.{Syntax}
use Rattle.sgml_scan.specs.Lone.{IsLoneTag}
use Rattle.sgml_scan.specs.StartTags.{IsStartTag}
use Rattle.sgml_scan.specs.declared.starts.StartTag.{StartTag}
use Rattle.sgml_scan.specs.Openings.{is_con}
use Rattle.sgml_scan.specs.delim.declared.delim.Mode.{Mode}
use Rattle.sgml_scan.specs.delim.declared.delim.Mode.TheVariants as mode
use Rattle.sgml_content_steps.specs.Modes.{is_of_instance}
use Rattle.sgml_markup.specs.declared.kinds.TokenKind.{TokenKind}
use Rattle.sgml_markup.specs.declared.kinds.TokenKind.TheVariants as kind
use Rattle.sgml_markup.specs.Forms.{last_byte, parts_of_tag}
use Rattle.sgml_markup.specs.declared.kinds.Part.{Part}
use Rattle.sgml_names.specs.Naming.{general_name}
use Rattle.sgml_dtd.specs.dtd_elements.Types.{number_of, types}
use Rattle.sgml_dtd.specs.Doctypes.{Doctype}
use Rattle.sgml_events.specs.declared.event.Event.{Event}
use Rattle.sgml_theory_spelling.specs.theory_reading.Names.{Text}
use Rattle.sgml_theory_spelling.specs.Tags.{element_of, element_name}
use Rattle.sgml_theory_spelling.specs.theory_reading.Pieces.{Tag, Slash}
use Rattle.sgml_theory_spelling.specs.theory_reading.Facets.{is_slash}
use Rattle.sgml_theory_spelling.specs.theory_reading.Reads.{top_place}
use Rattle.sgml_declared.specs.theory_standing.Kept.{Kept}
use Rattle.sgml_declared.specs.theory_standing.Held.{Held}
use Rattle.sgml_declared.specs.Files.{Choices}
use Rattle.sgml_starts.specs.declared.starts.StartValues.{StartValues}
use Rattle.sgml_starts.specs.Specified.{specified}
use Rattle.sgml_starts.specs.Starts.{start_of, after, list_in, HasValues}
use Rattle.sgml_infer.specs.declared.visible.Visible.TheVariants as visible
use Rattle.sgml_content_steps.specs.theory_starts.There.{input_at}
use Rattle.sgml_content_steps.specs.declared.run.Run.{Run}
use Rattle.sgml_content_steps.specs.Runs.{IsRun}
use Rattle.sgml_content_steps.specs.Steps.{IsStep, ToldAt}
use Rattle.sgml_content_steps.proofs.Standing.{judged-may-stand}
use Rattle.sgml_infer.specs.declared.visible.Visible.{Visible}
use Rattle.sgml_prolog_steps.specs.Found.{rest_in, may_grow}
use Rattle.sgml_content_steps.specs.declared.found.Found.TheVariants as found
use Rattle.sgml_content_steps.specs.Standing.{IsInInstance}
use Rattle.sgml_content_steps.specs.Found.{IsTokenThere}
use Rattle.sgml_content_steps.specs.Content.{Content, Holds, IsContent}
use Rattle.sgml_content_steps.proofs.Told.{found-there, some-told}
use Rattle.sgml_content_tags.specs.Ends.{IsEndSpelled, TellsEnd}
use Rattle.sgml_content_tags.specs.Named.{number_named, IsAlone}
use Rattle.sgml_content_tags.specs.Starts.{IsStartTaken}
use Rattle.sgml_content_tags.specs.Values.{after_tag, HasValuesOf}
use Rattle.sgml_content_tags.proofs.Numbered.{number-within}
use Rattle.sgml_content_tags.proofs.From.{IsPlainFrom, step-from}
use Rattle.sgml_content_tags.proofs.Ending.{judged_from, judged-for}
use Rattle.sgml_content_tags.proofs.Started.{valued_from, start-step, start-tells, start-content, begun-from, all-from}
use Rattle.sgml_content_tags.proofs.Tagging.{tag-grows, tag-start}
use Rattle.sgml_content_tags.specs.Quick.{name_part, IsTagThere, IsNamedThere, IsAloneThere, IsLoneThere, IsSpecifiedSo, TellsInContent}
use Rattle.sgml_content_tags.specs.declared.quick.Specifies.{Specifies}
use Rattle.sgml_content_tags.specs.declared.quick.Specifies.TheVariants as specifies
use Rattle.sgml_content_steps.specs.Plainly.{LeavesAll}

-- content is read in the instance
never : false ≡ true → ⊥
never e = cc

con-of-instance : (m : Mode) → is_con m ≡ true → is_of_instance m ≡ true
con-of-instance mode.Con con = refl
con-of-instance mode.Rcd con = refl
con-of-instance mode.Cdt con = refl
con-of-instance mode.Rcs con = refl
con-of-instance mode.Cds con = refl
con-of-instance mode.Ign con = refl
con-of-instance mode.Ds con = absurd (never con)
con-of-instance mode.Grp con = absurd (never con)
con-of-instance mode.Lit con = absurd (never con)
con-of-instance mode.Lita con = absurd (never con)
con-of-instance mode.Plt con = absurd (never con)
con-of-instance mode.Plta con = absurd (never con)
con-of-instance mode.Slt con = absurd (never con)
con-of-instance mode.Slta con = absurd (never con)
con-of-instance mode.Md con = absurd (never con)
con-of-instance mode.Pi con = absurd (never con)
con-of-instance mode.Ref con = absurd (never con)
con-of-instance mode.Tag con = absurd (never con)

-- THE TOKEN that is scanned there stands there
abbrev IsTag : Syntax → TokenKind → Text → ℕ → Type 0
IsTag s kind text n = (st : ScanState) (ended : Bool) → is_con st.mode ≡ true → IsScanned s st ended text (token kind n)

token-there : (k : Kept) (texts : List (ℕ × Text)) (kind : TokenKind) (n : ℕ) → IsInInstance k → 0 < n → n ≤ length (rest_in k texts)
    → IsTag k.doctype.syntax kind (rest_in k texts) n → (st : ScanState) (ended : Bool) → is_con st.mode ≡ true
    → IsTokenThere k st texts ended (record { kind = kind; length = n })
token-there k texts kind n i some within scanned st ended con =
    let t : Token = record { kind = kind; length = n } in
    found-there k k st texts ended (rest_in k texts) (may_grow k ended) (found.Token t)
    (record { instance = i; mode = con-of-instance st.mode con; same = refl; bytes_are = refl; grows_is = refl })
    (some-told k.doctype.syntax st (rest_in k texts) (may_grow k ended) (token kind n) (found.Token t) (omega (arith, some, within))
    (scanned st (not (may_grow k ended)) con) refl)

-- THE NUMBER of its type, by its name
pub named-by : (d : Doctype) (tag : Text) (p : Part) (others : List Part) (name : Text) (o : Option ℕ) → parts_of_tag d.syntax tag ≡ p ∷ others
    → name ≡ element_name tag (p ∷ others) → o ≡ number_of d.elements (general_name d.syntax name) → number_named d tag ≡ o
unfolding element_of
named-by d tag p others name o parts is e =
    ap (λ (ps : List Part). number_of d.elements (general_name d.syntax (element_name tag ps))) parts
    ∙ ap (λ (xs : Text). number_of d.elements (general_name d.syntax xs)) (sym is)
    ∙ sym e

-- WHAT STANDS THERE
tag-at : (c : Content) (texts : List (ℕ × Text)) (kind : TokenKind) (n number : ℕ) → IsContent c → 0 < n → n ≤ length (rest_in c.kept texts)
    → offset_of c.kept.stack.places + length (rest_in c.kept texts) < 2 ^ 64 → IsTag c.kept.doctype.syntax kind (rest_in c.kept texts) n
    → last_byte (take n (rest_in c.kept texts)) ≡ 62 → number_named c.kept.doctype (take n (rest_in c.kept texts)) ≡ Some number
    → IsNamedThere c texts kind n number
tag-at c texts kind n number is some within fits scanned closed named = record {
  tag = record {
    some = some;
    within = within;
    fits = omega (arith, within, fits);
    there = token-there c.kept texts kind n is.instance some within scanned;
  };
  named = named;
  closed = closed;
}

lone-there : (c : Content) (texts : List (ℕ × Text)) (kind : TokenKind) (n from number : ℕ) → IsContent c → 0 < n → n ≤ length (rest_in c.kept texts)
    → offset_of c.kept.stack.places + length (rest_in c.kept texts) < 2 ^ 64
    → IsLoneTag c.kept.doctype.syntax kind from (rest_in c.kept texts) n
    → number_named c.kept.doctype (take n (rest_in c.kept texts)) ≡ Some number
    → IsLoneThere c texts kind from n number
lone-there c texts kind n from number is some within fits h named = record {
  there = tag-at c texts kind n number is some within fits h.scanned h.closed named;
  alone = record {
    parts = h.parts;
    named = refl;
    within = (let s = h.some in omega (arith, s), let l = length-take n (rest_in c.kept texts) in omega (arith, l, within));
  };
}

-- AN END that is taken then is a step there
pub end-plainly : (texts : List (ℕ × Text)) (t : Token) (visible : Visible) (number : ℕ) (old new : Content) (before after : List Event)
    → IsTagThere old texts t.kind t.length
    → ((st : ScanState) (more : Bool) → IsTokenThere old.kept st texts more t → IsEndSpelled old st texts more t.length visible number)
    → TellsEnd texts t.length visible number old new before after (Ok tt) → TellsInContent texts old new before after
end-plainly texts t visible number old new before after tag spelled told = (
  told.0,
  told.1,
  told.2,
  λ c st ended con. told.3 c st ended tag.some tag.within (spelled st ended (tag.there st ended con)),
)

-- by the bytes that are left there
pub lone-at : (c : Content) (texts : List (ℕ × Text)) (kind : TokenKind) (n from number : ℕ) (rest : Text) → rest ≡ rest_in c.kept texts → IsContent c → 0 < n
    → n ≤ length rest → offset_of c.kept.stack.places + length rest < 2 ^ 64 → IsLoneTag c.kept.doctype.syntax kind from rest n
    → number_named c.kept.doctype (take n rest) ≡ Some number → IsLoneThere c texts kind from n number
lone-at c texts kind n from number rest e is some within fits h named =
    lone-there c texts kind n from number is some (subst (λ (r : Text). n ≤ length r) e within)
    (subst (λ (r : Text). offset_of c.kept.stack.places + length r < 2 ^ 64) e fits) (subst (λ (r : Text). IsLoneTag c.kept.doctype.syntax kind from r n) e h)
    (subst (λ (r : Text). number_named c.kept.doctype (take n r) ≡ Some number) e named)

pub start-at : (c : Content) (texts : List (ℕ × Text)) (t : StartTag) (number : ℕ) (rest : Text) → rest ≡ rest_in c.kept texts → IsContent c
    → offset_of c.kept.stack.places + length rest < 2 ^ 64 → IsStartTag c.kept.doctype.syntax rest t
    → number_named c.kept.doctype (take t.length rest) ≡ Some number → IsNamedThere c texts kind.StartTag t.length number
start-at c texts t number rest e is fits h named =
    let there = subst (λ (r : Text). IsStartTag c.kept.doctype.syntax r t) e h in
    tag-at c texts kind.StartTag t.length number is (let n = h.named in omega (arith, n)) there.within
    (subst (λ (r : Text). offset_of c.kept.stack.places + length r < 2 ^ 64) e fits) there.scanned there.closed
    (subst (λ (r : Text). number_named c.kept.doctype (take t.length r) ≡ Some number) e named)

-- A START that is taken then is a step there
pub start-plainly : (texts : List (ℕ × Text)) (n number : ℕ) (old judged mid new : Content) (run : Run) (start : StartValues) (place : Place) (before after : List Event)
    → IsContent old → IsNamedThere old texts kind.StartTag n number → judged ≡ judged_from old judged.tree judged.currents
    → ((x : Held) → Holds old x → Holds judged x) → IsRun judged (visible.Start number) run → IsContent judged
    → HasValuesOf judged texts number (Some n) start mid.currents → mid ≡ after_tag judged texts (Some n) mid.currents → place ≡ top_place old.kept.stack.places
    → IsStartTaken judged mid new place number false run.chain.included start before after
    → TellsInContent texts old new before after × IsContent new
start-plainly texts n number old judged mid new run start place before behind is there same holds run_is judged_is valued left at s =
    let t : Token = record { kind = kind.StartTag; length = n } in
    let tag = there.tag in
    let named = there.named in
    let numbered = number-within old.kept.doctype _ number named in
    let j = judged-for old judged (visible.Start number) run same run_is holds judged_is in
    let spent = (specified (input_at old.kept texts) (Some n)).spent in
    let values = subst (λ (z : Content). HasValues (start_of z.kept.doctype.syntax z.kept.doctype number z.currents) (specified (input_at z.kept texts) (Some n)) start mid.currents)
    same valued in
    let m : mid ≡ valued_from n spent old judged.tree mid.currents =
    subst (λ (z : Content). mid ≡ record z { kept = record z.kept { stack = after z.kept.stack (specified (input_at z.kept texts) (Some n)).spent (Some n) }; currents = mid.currents }) same left in
    let b = begun-from n number spent false old judged mid new run start place before behind m s
    judged-may-stand j same numbered (tag-grows texts t old refl is tag.within number named) (values.currents.as_many ∙ j.content.lists) in
    let tells = start-tells n number spent false old s.left new judged.tree judged.currents run start mid.currents s.told b
    (λ (es : List Event). (o : Choices) (st : ScanState) (ended : Bool) → is_con st.mode ≡ true → IsStep o st texts ended old new es (Ok tt)) place before (before ++ s.told) behind
    at refl (all-from n number spent false old judged mid new run start place before behind m s)
    (λ o st ended con. start-step n number spent false old s.left new judged.tree judged.currents run start mid.currents s.told b o st texts ended place tag.some tag.within
    (λ outside x options h held.
    tag-start texts t old refl is tag.within number named numbered judged.tree judged.currents run j x h o start mid.currents false
    (ap (λ (b : ℕ). is_slash (if b == 47 then Slash else Tag)) there.closed) values st ended (tag.there st ended con) outside options held)) in
    (tells, start-content n number spent false old s.left new judged.tree judged.currents run start mid.currents s.told b)

-- JUDGING left what stands there
pub named-kept : (texts : List (ℕ × Text)) (kind : TokenKind) (n number : ℕ) (old new : Content) → new.kept ≡ old.kept
    → IsNamedThere old texts kind n number → IsNamedThere new texts kind n number
named-kept texts kind n number old new e h = record {
  tag = record {
    some = h.tag.some;
    within = subst (λ (k : Kept). n ≤ length (rest_in k texts)) (sym e) h.tag.within;
    fits = subst (λ (k : Kept). offset_of k.stack.places + n < 2 ^ 64) (sym e) h.tag.fits;
    there = λ st ended con. subst (λ (k : Kept). IsTokenThere k st texts ended (record { kind = kind; length = n })) (sym e) (h.tag.there st ended con);
  };
  named = subst (λ (k : Kept). number_named k.doctype (take n (rest_in k texts)) ≡ Some number) (sym e) h.named;
  closed = subst (λ (k : Kept). last_byte (take n (rest_in k texts)) ≡ 62) (sym e) h.closed;
}

alone-kept : (texts : List (ℕ × Text)) (n : ℕ) (old new : Content) → new.kept ≡ old.kept → IsAloneThere old texts 1 n → IsAloneThere new texts 1 n
alone-kept texts n old new e h = subst (λ (k : Kept). IsAlone k.doctype.syntax (take n (rest_in k texts)) (name_part 1 n)) (sym e) h

pub specified-kept : (texts : List (ℕ × Text)) (n number : ℕ) (specifies : Specifies) (old new : Content) → new.kept ≡ old.kept
    → IsSpecifiedSo old texts n number specifies → IsSpecifiedSo new texts n number specifies
specified-kept texts n number specifies.Nothing old new e h = (
  subst (λ (k : Kept). list_in k.doctype (slice_get (types k.doctype.elements) number) ≡ None) (sym e) h.0,
  alone-kept texts n old new e h.1,
)
specified-kept texts n number specifies.Defaults old new e h = alone-kept texts n old new e h
specified-kept texts n number specifies.InTag old new e h = tt

pub lone-kept : (texts : List (ℕ × Text)) (kind : TokenKind) (from n number : ℕ) (old new : Content) → new.kept ≡ old.kept
    → IsLoneThere old texts kind from n number → IsLoneThere new texts kind from n number
lone-kept texts kind from n number old new e h = record {
  there = named-kept texts kind n number old new e h.there;
  alone = subst (λ (k : Kept). IsAlone k.doctype.syntax (take n (rest_in k texts)) (name_part from n)) (sym e) h.alone;
}

pub plainly-from : (texts : List (ℕ × Text)) (old j new : Content) (before made after : List Event) → IsPlainFrom old j → made ≡ before
    → TellsInContent texts j new made after → TellsInContent texts old new before after
plainly-from texts old j new before made after from e t = subst (λ (es : List Event). TellsInContent texts old new es after) e (
  t.0,
  t.1,
  subst (λ (k : Kept). ToldAt k t.0) from.kept t.2,
  λ c st ended con. step-from c st texts ended old j new t.0 (Ok tt) from (t.3 c st ended con),
)

pub left-from : (old j new : Content) (before made after : List Event) → IsPlainFrom old j → made ≡ before → LeavesAll j new made after → LeavesAll old new before after
left-from old j new before made after from e l =
    (record { holds = λ x h. l.0.holds x (from.holds x h); kept = l.0.kept ∙ from.kept; silent = l.0.silent }, l.1 ∙ e)
