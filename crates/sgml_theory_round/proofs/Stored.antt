-- The file of a full document is read again.
use Rattle.std.proofs.Common.{◌≡◌, ℕ, suc, ◌+◌, Bool, true, false, List, [], ◌∷◌, ◌++◌, Option, Some, None, if◌then◌else◌, length, take, drop, nat_lt, refl, sym, ap, ◌∙◌, subst, arith}
use Rattle.std.proofs.lemmas.Bool.{ltb-false}
use Rattle.std.proofs.lemmas.List.{append_assoc, length-append, take_all, take-append-drop}
use Rattle.std.proofs.Math.Seq.{drop-append_seam}
use Rattle.sgml_storage.specs.io.Records.{records, EndsInRecord}
use Rattle.sgml_storage.specs.Storage.{IsStorageOf}
use Rattle.sgml_storage.specs.Fronts.{IsStored, FrontsAreStored}
use Rattle.sgml_storage.proofs.Exact.{records-append}
use Rattle.sgml_conversion.specs.sgml_full.Spelled.{is_paired}
use Rattle.sgml_conversion.specs.sgml_full.Full.{full_document, first_unspelled}
use Rattle.sgml_conversion.specs.sgml_full.declared.inside.Inside.TheVariants as inside
use Rattle.sgml_conversion.specs.theory_reading.Names.{Text}
use Rattle.sgml_conversion.specs.theory_reading.Pieces.{History}
use Rattle.sgml_conversion.specs.theory_reading.Nest.{types}
use Rattle.sgml_conversion.specs.theory_reading.Context.{context}
use Rattle.sgml_conversion.specs.theory_reading.Unread.{Input, opening}
use Rattle.sgml_conversion.specs.theory_reading.State.{state}
use Rattle.sgml_conversion.specs.theory_reading.Reads.{Move, after_moves, read_by, stop_place, prolog_of}
use Rattle.sgml_conversion.specs.theory_reading.Events.{Event as Said, Started, Ended, Byte, SpecificData, External, Instruction, events, instructions}
use Rattle.sgml_conversion.proofs.theory_reading.Borders.{prolog-stays}
use Rattle.sgml_theory_prologs.specs.theory_spelling.Spelled.{forms}
use Rattle.sgml_theory_writable.specs.sgml_theory_full.Named.{AllAre}
use Rattle.sgml_theory_writable.specs.sgml_theory_full.Spellings.{text_of, spellings}
use Rattle.sgml_theory_writable.specs.sgml_theory_full.Laws.{FullDocumentIsSpellings}
use Rattle.sgml_theory_prologs.specs.Laws.{PrologsAreThere, PrologsEndWithinRecords, NothingIsOpen}
use Rattle.sgml_theory_writable.specs.Laws.{MayBeSpelled, ReadIsWritten}
use Rattle.sgml_conversion.proofs.Turned.{moves-append}
use Rattle.sgml_conversion.specs.source.Inputs.{input_of}
use Rattle.sgml_conversion.specs.Full.{instance_events, prolog_end}
use Rattle.sgml_theory_round.specs.Parted.{Parted}
use Rattle.sgml_theory_round.specs.Again.{instance_told}
use Rattle.sgml_theory_round.specs.Plain.{DocumentsAreReadAgain}
use Rattle.sgml_theory_round.specs.Stored.{FilesHaveFullDocuments, FilesAreReadAgain}
use Rattle.sgml_theory_round.proofs.Again.{told-after, types-after}
use Rattle.sgml_theory_round.proofs.Placed.{prolog-long}
use Rattle.sgml_theory_round.proofs.Plain.{all-written}

-- THE TWO PARTS of what was read, after it

read-parted : (I : Input) (ms : List Move) (p : Parted I ms) → read_by I ms ≡ after_moves (read_by I p.prolog) p.instance
read-parted I ms p = ap (read_by I) p.together ∙ moves-append (opening I.outside) p.prolog p.instance

border-is : (I : Input) (ms : List Move) (p : Parted I ms) → prolog_of (read_by I ms) ≡ read_by I p.prolog
border-is I ms p = ap prolog_of (read-parted I ms p) ∙ prolog-stays (read_by I p.prolog) p.instance p.border

types-are : (I : Input) (ms : List Move) (p : Parted I ms) → types (read_by I ms) ≡ (state (read_by I p.prolog)).context.doctype
unfolding state context
types-are I ms p = ap (λ (ns : List Move). types (read_by I ns)) p.together ∙ types-after I p.prolog p.instance p.prolog_reads p.border p.instance_reads

events-are : (I : Input) (ms : List Move) (p : Parted I ms) → instance_events (read_by I ms) ≡ instance_told I ms p
events-are I ms p =
    ap (λ (k : History). drop (length (events forms k)) (events forms (read_by I ms))) (border-is I ms p)
    ∙ (ap (drop (length (events forms (read_by I p.prolog)))) (told-after I ms p) ∙ drop-append_seam (events forms (read_by I p.prolog)) (instance_told I ms p))

-- THE STORAGE OF THE PROLOG makes the prolog, and ends within a record
record IsStorage (prolog storage : Text) : Type 0 where
  makes : records storage ≡ prolog
  ends : EndsInRecord storage

storage-is : FrontsAreStored → (limit : ℕ) (bytes prolog rest storage : Text) → records (take limit bytes) ≡ prolog ++ rest → EndsInRecord prolog
    → IsStorageOf bytes (length prolog) storage → IsStorage prolog storage
storage-is fronts limit bytes prolog rest storage read w s =
    let front = w.front in
    let last = w.last in
    let is = w.is in
    let plain = w.plain in
    let more = records-append (take limit bytes) (drop limit bytes) in
    let whole : records bytes ≡ (front ++ last ∷ []) ++ (rest ++ more.0) =
    ap records (sym (take-append-drop limit bytes))
    ∙ (more.1 ∙ (ap (λ (z : Text). z ++ more.0) (read ∙ ap (λ (z : Text). z ++ rest) is) ∙ append_assoc (front ++ last ∷ []) rest more.0)) in
    let long : length prolog ≡ length front + 1 = ap length is ∙ length-append front (last ∷ []) in
    let x : IsStored front last storage =
    fronts bytes front (rest ++ more.0) storage last (whole ∙ append_assoc front (last ∷ []) (rest ++ more.0)) plain (subst (λ (n : ℕ). IsStorageOf bytes n storage) long s) in
    record { makes = x.makes ∙ sym is; ends = record { front = x.before; last = last; is = x.last; plain = plain } }

-- a text that isn't longer than the limit is read whole
short-whole : (n : ℕ) (text : Text) → nat_lt n (length text) ≡ false → take n text ≡ text
short-whole n text e = let l = ltb-false n (length text) e in take_all n text (omega (arith, l))

-- THE SECOND FILE has it
pub files-have-full-documents : FrontsAreStored → PrologsAreThere → PrologsEndWithinRecords → FullDocumentIsSpellings → FilesHaveFullDocuments
files-have-full-documents fronts there within spelled limit files c declaration bytes text ms p r written full short =
    let I = input_of limit files c declaration bytes in
    let h = read_by I ms in
    let d = (state (read_by I p.prolog)).context.doctype in
    let es = instance_told I ms p in
    let b = there I p.prolog p.prolog_reads p.border in
    let w = within I p.prolog b.0 b.1 b.2 in
    let size : prolog_end h ≡ length b.0 = ap (λ (k : History). (stop_place k).at) (border-is I ms p) ∙ prolog-long I p.prolog b.0 b.1 b.2 in
    let s = storage-is fronts limit bytes b.0 b.1 full.prolog b.2.document w (subst (λ (n : ℕ). IsStorageOf bytes n full.prolog) size full.storage) in
    let is : text ≡ full_document full.prolog d es = full.is ∙ (λ i. full_document full.prolog (types-are I ms p i) (events-are I ms p i)) in
    let made : records (take limit text) ≡ b.0 ++ (text_of (spellings d inside.Mixed es) ++ 13 ∷ []) =
    ap records (short-whole limit text short ∙ is) ∙ (spelled full.prolog d es s.ends written ∙ ap (λ (z : Text). z ++ (text_of (spellings d inside.Mixed es) ++ 13 ∷ [])) s.makes) in
    record { outside = refl; whole = short; prolog = b.0; rest = b.1; reads = b.2; document = made }

-- WHERE NO INSTRUCTION is the first that can't be spelled, each can
is-paired : (t : Bool) (n : ℕ) (o : Option ℕ) → (if t then o else Some n) ≡ None → (t ≡ true) × (o ≡ None)
is-paired true n o e = (refl, e)
is-paired false n o e = absurd (cc)

all-spelled : (n : ℕ) (es : List Said) → first_unspelled n es ≡ None → AllAre MayBeSpelled es
all-spelled n [] e = tt
all-spelled n (Instruction text None ∷ es) e =
    let x = is-paired (is_paired false text) n (first_unspelled (suc n) es) e in
    (x.0, all-spelled (suc n) es x.1)
all-spelled n (Instruction text (Some entity) ∷ es) e = (tt, all-spelled (suc n) es e)
all-spelled n (Started name attributes ∷ es) e = (tt, all-spelled n es e)
all-spelled n (Ended name ∷ es) e = (tt, all-spelled n es e)
all-spelled n (Byte b ∷ es) e = (tt, all-spelled n es e)
all-spelled n (SpecificData entity text ∷ es) e = (tt, all-spelled n es e)
all-spelled n (External entity ∷ es) e = (tt, all-spelled n es e)

pub files-are-read-again : NothingIsOpen → PrologsAreThere → ReadIsWritten → FilesHaveFullDocuments → DocumentsAreReadAgain → FilesAreReadAgain
files-are-read-again nothing there writable have again limit files c declaration bytes text ms p r e may none full short =
    let I = input_of limit files c declaration bytes in
    let n = length (instructions (events forms (prolog_of (read_by I ms)))) in
    let spelled : AllAre MayBeSpelled (instance_told I ms p) = all-spelled n (instance_told I ms p) (sym (ap (first_unspelled n) (events-are I ms p)) ∙ none) in
    let b = there I p.prolog p.prolog_reads p.border in
    let written = all-written nothing writable I ms p b.0 b.1 b.2 spelled in
    again I (input_of limit files c declaration text) ms p e may spelled (have limit files c declaration bytes text ms p r written full short)
