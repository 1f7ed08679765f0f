use Rattle.std.proofs.lemmas.Result.{err_from_is_err_and}
use Rattle.std.proofs.Common.{◌++◌}
use Rattle.cx_codec.specs.Varint.{varint}
use Rattle.cx_csr.specs.Words.{words_of}
use Rattle.cx_log.specs.Text.{behind_magic, header_text, magic, version_text, words_text}
use Rattle.cx_codec.proofs.Putting.{puts_on, puts_fails}
use Rattle.cx_log.proofs.text.put_header.Goals as goal

pub returns-in_err-put_bytes : goal.returns-in_err-put_bytes
unfolding header_text
returns-in_err-put_bytes g c =
    let p = err_from_is_err_and c.from_residual.result c.from_residual.ensures.1 in
    let h = c.args.header.now in
    rw (p.1, p.2) (puts_fails magic (behind_magic h) c.in_err-put_bytes.ensures)

pub returns-in_err-put_version : goal.returns-in_err-put_version
unfolding header_text
returns-in_err-put_version g c =
    let p = err_from_is_err_and c.from_residual-in_err-put_version.result c.from_residual-in_err-put_version.ensures.1
    in
    let h = c.args.header.now in
    rw (p.1, p.2) (puts_on magic _ c.in_ok-put_bytes.ensures (puts_fails (version_text h.version h.split)
    (varint h.pages ++ (varint h.base ++ (words_text (words_of h.start) ++ varint h.count)))
    c.in_err-put_version.ensures))

pub returns-in_err-put_varint : goal.returns-in_err-put_varint
unfolding header_text
returns-in_err-put_varint g c =
    let p = err_from_is_err_and c.from_residual-in_err-put_varint.result c.from_residual-in_err-put_varint.ensures.1 in
    let h = c.args.header.now in
    rw (p.1, p.2) (puts_on magic _ c.in_ok-put_bytes.ensures (puts_on (version_text h.version h.split) _
    c.in_ok-put_version.ensures
    (puts_fails (varint h.pages) (varint h.base ++ (words_text (words_of h.start) ++ varint h.count))
    c.in_err-put_varint.ensures)))

pub returns-in_err-put_varint-2 : goal.returns-in_err-put_varint-2
unfolding header_text
returns-in_err-put_varint-2 g c =
    let p = err_from_is_err_and c.from_residual-in_err-put_varint-2.result c.from_residual-in_err-put_varint-2.ensures.1
    in
    let h = c.args.header.now in
    rw (p.1, p.2) (puts_on magic _ c.in_ok-put_bytes.ensures (puts_on (version_text h.version h.split) _
    c.in_ok-put_version.ensures (puts_on (varint h.pages) _ c.in_ok-put_varint.ensures
    (puts_fails (varint h.base) (words_text (words_of h.start) ++ varint h.count) c.in_err-put_varint-2.ensures))))

pub returns-in_err-put_words : goal.returns-in_err-put_words
unfolding header_text
returns-in_err-put_words g c =
    let p = err_from_is_err_and c.from_residual-in_err-put_words.result c.from_residual-in_err-put_words.ensures.1 in
    let h = c.args.header.now in
    rw (p.1, p.2) (puts_on magic _ c.in_ok-put_bytes.ensures (puts_on (version_text h.version h.split) _
    c.in_ok-put_version.ensures (puts_on (varint h.pages) _ c.in_ok-put_varint.ensures
    (puts_on (varint h.base) _ c.in_ok-put_varint-2.ensures (puts_fails (words_text (words_of h.start))
    (varint h.count) (rw c.to_words.ensures at c.in_err-put_words.ensures))))))

pub returns : goal.returns
unfolding header_text
returns g c =
    let h = c.args.header.now in
    puts_on magic _ c.in_ok-put_bytes.ensures (puts_on (version_text h.version h.split) _ c.in_ok-put_version.ensures
    (puts_on (varint h.pages) _ c.in_ok-put_varint.ensures (puts_on (varint h.base) _ c.in_ok-put_varint-2.ensures
    (puts_on (words_text (words_of h.start)) _ (rw c.to_words.ensures at c.in_ok-put_words.ensures)
    c.put_varint-3.ensures))))
