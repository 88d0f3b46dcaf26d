use Rattle.std.proofs.Common.{◌≡◌, Some, length, take, drop, min, ap, ◌∙◌, refl}
use Rattle.std.specs.Prelude.{slice_get}
use Rattle.std.proofs.lemmas.Option.{slice_get_read}
use Rattle.sgml_io.specs.Files.{file_bytes}
use Rattle.sgml_io.proofs.Bytes.{slice_get-set_same, slice_get-set_other, taken_and_left}
use Rattle.sgml_io.proofs.memory.MemoryStoreStore.read.Goals as goal

pub returns-clause-bytes : goal.returns-clause-bytes
returns-clause-bytes c =
    let s = c.args.self.now in
    let o = c.index-opened.result.now in
    let n = c.min-count.result in
    let bytes = file_bytes (slice_get s.files.items o.file) in
    let here : slice_get s.opened.items c.args.id ≡ Some o = slice_get_read s.opened.items _ c.args.id o refl c.requires c.index-opened.ensures in
    let whole : c.rest_of-bytes.result.now ≡ drop o.at bytes = c.rest_of-bytes.ensures.rest ∙ ap (λ v. drop o.at (file_bytes (slice_get v o.file))) c.deref.ensures.value in
    let front : c.copy_from_slice.new.self ≡ take n (drop o.at bytes) = c.copy_from_slice.ensures.after ∙ ap (λ v. take n v) whole in
    let h : n ≡ min (length (drop o.at bytes)) (length c.args.buf.now) = c.min-count.ensures ∙ ap (λ v. min (length v) (length c.args.buf.now)) whole in
    let f = taken_and_left bytes c.args.buf.now o.at n h in
    rw (here, slice_get-set_same s.opened.items c.args.id _ c.requires, front) f

pub returns-clause-others : goal.returns-clause-others
returns-clause-others c = λ other ne. rw (slice_get-set_other _ _ other _ ne) refl
