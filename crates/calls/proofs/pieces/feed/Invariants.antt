-- What is fed of the rest gives what is fed of all.
use mathlib.Core.Path.{◌≡◌}
use Rattle.crc.specs.Pieces.{fed}
use Rattle.calls.specs.Pieces.{chunks_of}
use Rattle.calls.proofs.pieces.feed.Given as goal

abbrev pub invariant-loop-piece : goal.invariant-loop-piece
invariant-loop-piece l =
    (l.piece-iterator.size ≡ l.size)
    × (fed l.initial.sum (chunks_of l.size l.bytes) ≡ fed l.sum (chunks_of l.size l.piece-iterator.rest.now))
