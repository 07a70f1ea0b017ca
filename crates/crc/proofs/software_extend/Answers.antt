use mathlib.Core.Path.{◌≡◌, ◌∙◌}
use borrow.Author.Rules.{rules}
use Rattle.std.proofs.iter.runs.Made.{chains}
use Rattle.std.specs.List.{fold}
use Rattle.crc.specs.Crc.{step_byte, extend}
use Rattle.crc.proofs.Parts.{over_bytes, parts_rest}
use Rattle.crc.proofs.software_extend.Goals as goal

pub returns : goal.returns
returns c =
    let rounds = c.as_chunks in
    let eights = c.as_chunks-2 in
    let x : c.fold-crc.result ≡ fold extend c.args.crc rounds.result.0.now = search (rules, chains) in
    let y : c.fold-crc-2.result ≡ fold extend c.fold-crc.result eights.result.0.now = search (rules, chains) in
    let z : c.fold.result ≡ fold step_byte c.fold-crc-2.result eights.result.1.now = search (rules, chains) in
    z ∙ over_bytes c.fold-crc-2.result eights.result.1.now
    ∙ parts_rest 8 c.fold-crc.result rounds.result.1.now eights.result.1.now eights.result.0.now eights.ensures.front eights.ensures.back y
    ∙ parts_rest 4008 c.args.crc c.args.bytes.now rounds.result.1.now rounds.result.0.now rounds.ensures.front rounds.ensures.back x
