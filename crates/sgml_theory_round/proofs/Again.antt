-- A full document is read again.
use Rattle.std.proofs.Common.{◌≡◌, ℕ, Bool, true, false, not, ◌==◌, ◌&&◌, List, [], ◌∷◌, ◌++◌, refl, sym, ap, ◌∙◌, subst}
use Rattle.std.specs.Prelude.{IsTrue}
use Rattle.std.proofs.lemmas.Bool.{and_parts}
use Rattle.sgml_conversion.specs.theory_reading.Pieces.{History}
use Rattle.sgml_conversion.specs.theory_reading.Nest.{types}
use Rattle.sgml_conversion.specs.theory_reading.Unread.{Input, opening, spent}
use Rattle.sgml_conversion.specs.theory_reading.State.{state}
use Rattle.sgml_conversion.specs.theory_reading.Reads.{Move, ReadOn, ReadsFromStart, after_moves, read_by, ends_in_finish, is_after_subset, is_border, is_first_border}
use Rattle.sgml_conversion.specs.theory_reading.Events.{events}
use Rattle.sgml_conversion.specs.theory_reading.Lines.{lines, lines_by}
use Rattle.sgml_conversion.proofs.theory_reading.Borders.{first-is-border}
use Rattle.sgml_conversion.proofs.theory_reading.Cutting.{read-append}
use Rattle.sgml_conversion.proofs.theory_reading.Told.{moves-told}
use Rattle.sgml_theory_prologs.specs.theory_spelling.Spelled.{forms}
use Rattle.sgml_conversion.proofs.Turned.{moves-append}
use Rattle.sgml_conversion.proofs.Typed.{border-keeps-types}
use Rattle.sgml_conversion.specs.sgml_full.declared.inside.Inside.TheVariants as inside
use Rattle.sgml_theory_writable.specs.sgml_theory_full.Spellings.{text_of, spellings}
use Rattle.sgml_theory_writable.specs.sgml_theory_full.Written.{at_document}
use Rattle.sgml_theory_writable.specs.sgml_theory_full.Conforming.{InstanceRead}
use Rattle.sgml_theory_writable.specs.sgml_theory_full.Following.{Follows, ReadMayBeWritten}
use Rattle.sgml_theory_writable.specs.sgml_theory_full.Instances.{ReadToEnd, StandsFor, InstancesAreReadAgain}
use Rattle.sgml_theory_prologs.specs.Prologs.{IsBeforeInstance}
use Rattle.sgml_theory_prologs.specs.Laws.{IsSamePrologOf, SamePrologsAreRead, NothingIsOpen}
use Rattle.sgml_theory_round.specs.Parted.{Parted}
use Rattle.sgml_theory_round.specs.Again.{instance_told, IsFullOf, IsReadAgain, FullDocumentsAreReadAgain}
use Rattle.sgml_theory_round.proofs.Beside.{follows-itself, refers-before}
use Rattle.sgml_theory_round.proofs.Characters.{written-sgml}

-- a border isn't the document's end
not-end : (c : Bool) → not c ≡ true → c ≡ false
not-end true e = absurd (cc)
not-end false e = refl

border-goes-on : (h : History) → is_border h ≡ true → ends_in_finish h ≡ false
border-goes-on h e =
    let all = and_parts (is_after_subset (state h).stage) (((state h).texts == 1) && not (ends_in_finish h)) e in
    not-end (ends_in_finish h) (and_parts ((state h).texts == 1) (not (ends_in_finish h)) all.1).1

-- what is told after the prolog of the first document
pub told-after : (I : Input) (ms : List Move) (p : Parted I ms) → events forms (read_by I ms) ≡ events forms (read_by I p.prolog) ++ instance_told I ms p
told-after I ms p =
    ap (λ (ns : List Move). events forms (read_by I ns)) p.together
    ∙ ap (events forms) (moves-append (opening I.outside) p.prolog p.instance) ∙ moves-told forms (read_by I p.prolog) p.instance

read-to-end : (I : Input) (ms : List Move) (p : Parted I ms) → IsTrue (ends_in_finish (read_by I ms)) → ReadToEnd I (read_by I p.prolog) p.instance
read-to-end I ms p e = record {
  goes_on = border-goes-on (read_by I p.prolog) (first-is-border (read_by I p.prolog) p.border);
  reads = p.instance_reads;
  ends =
      sym (ap ends_in_finish (ap (read_by I) p.together ∙ moves-append (opening I.outside) p.prolog p.instance)) ∙ e;
}

-- at the end of its prolog the second one has what is written of these events
stands-for : (I J : Input) (ms : List Move) (p : Parted I ms) → (f : IsFullOf I J ms p) → IsBeforeInstance (state (read_by I p.prolog))
    → (other : List ℕ) → other ≡ text_of (spellings (state (read_by I p.prolog)).context.doctype inside.Mixed (instance_told I ms p)) ++ 13 ∷ []
    → IsSamePrologOf I J p.prolog f.prolog other → StandsFor (read_by I p.prolog) (instance_told I ms p) J (read_by J p.prolog)
stands-for I J ms p f b other is same = record {
  whole = f.whole;
  goes_on = border-goes-on (read_by J p.prolog) (first-is-border (read_by J p.prolog) same.reads.first);
  follows = subst (Follows (state (read_by I p.prolog))) (sym same.state_same) (follows-itself (state (read_by I p.prolog)) b);
  refers = refers-before (state (read_by I p.prolog)).context b.no_element;
  spent = spent J.outside (read_by J p.prolog);
  left = same.reads.left ∙ ap (at_document (spent J.outside (read_by J p.prolog))) is;
}

-- the tables of the document type are those of the prolog
pub types-after : (I : Input) (before ms : List Move) → ReadsFromStart forms I before → is_first_border (read_by I before) ≡ true
    → ReadOn forms I (read_by I before) ms → types (read_by I (before ++ ms)) ≡ types (read_by I before)
types-after I before ms r e on =
    ap types (moves-append (opening I.outside) before ms)
    ∙ border-keeps-types I before ms r (first-is-border (read_by I before) e) on

lines-same : (h k : History) → types h ≡ types k → events forms h ≡ events forms k → ends_in_finish h ≡ true → ends_in_finish k ≡ true
    → lines forms h ≡ lines forms k
unfolding lines
lines-same h k t e a b =
    let over : ends_in_finish h ≡ ends_in_finish k = a ∙ sym b in
    λ i. lines_by (t i) (e i) (over i)

again-by : (I J : Input) (ms : List Move) (p : Parted I ms) (f : IsFullOf I J ms p) (other : List ℕ) → IsTrue (ends_in_finish (read_by I ms)) → IsSamePrologOf I J p.prolog f.prolog other
    → InstanceRead J (read_by J p.prolog) (instance_told I ms p) → IsReadAgain I J ms p
again-by I J ms p f other e same r =
    let after : read_by J (p.prolog ++ r.moves) ≡ after_moves (read_by J p.prolog) r.moves = moves-append (opening J.outside) p.prolog r.moves in
    let told : events forms (read_by J (p.prolog ++ r.moves)) ≡ events forms (read_by I ms) =
    ap (events forms) after ∙ r.told ∙ ap (λ (h : History). events forms h ++ instance_told I ms p) same.read_same ∙ sym (told-after I ms p) in
    let over : ends_in_finish (read_by J (p.prolog ++ r.moves)) ≡ true = ap ends_in_finish after ∙ r.over in
    let before : types (read_by I ms) ≡ types (read_by I p.prolog) =
    ap (λ (ns : List Move). types (read_by I ns)) p.together ∙ types-after I p.prolog p.instance p.prolog_reads p.border p.instance_reads in
    let now : types (read_by J (p.prolog ++ r.moves)) ≡ types (read_by J p.prolog) =
    types-after J p.prolog r.moves same.reads.reads same.reads.first r.reads in record {
      instance = r.moves;
      reads = (read-append forms J (opening J.outside) p.prolog r.moves).1 (same.reads.reads, r.reads);
      over = over;
      told = told;
      same_lines =
          lines-same (read_by J (p.prolog ++ r.moves)) (read_by I ms) (now ∙ ap types same.read_same ∙ sym before) told over e;
      none_omitted = r.none_omitted;
    }

pub full-documents-are-read-again : SamePrologsAreRead → NothingIsOpen → ReadMayBeWritten → InstancesAreReadAgain → FullDocumentsAreReadAgain
full-documents-are-read-again prologs nothing may instances I J ms p e holds f =
    let h = read_by I p.prolog in
    let other = text_of (spellings (state h).context.doctype inside.Mixed (instance_told I ms p)) ++ 13 ∷ [] in
    let before = (nothing I p.prolog p.prolog_reads p.border).1 in
    let read = read-to-end I ms p e in
    let sgml = written-sgml may I h p.instance read holds (follows-itself (state h) before) (refers-before (state h).context before.no_element) in
    let same = prologs I J p.prolog f.prolog f.rest other f.whole sgml f.outside f.reads f.document in
    again-by I J ms p f other e same
    (instances I J h (read_by J p.prolog) p.instance read holds (stands-for I J ms p f before other refl same))
