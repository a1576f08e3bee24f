-- Three runs, each put where the one before it ended.
use Rattle.std.proofs.Common.{◌∙◌, arith}
use Rattle.pack_text.specs.Text.{line, name_word}
use Rattle.pack_text.proofs.Lines.{line_written, text_first}
use Rattle.pack_text.proofs.write_name.Goals as goal

pub returns : goal.returns
returns c =
    let p = c.args in
    line_written p.d.now 0 name_word p.name.now (omega arith) c.copy.ensures (omega arith)
    c.copy-2.ensures (omega arith) c.copy-3.ensures
    ∙ text_first p.d.now (line name_word p.name.now)
