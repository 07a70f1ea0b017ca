use Rattle.error.proofs.Tests.{is_of}
use Rattle.group.proofs.Compact.{sized_of}
use Rattle.group.proofs.validate_checksum_group.Goals as goal

pub is_compact-requires : goal.is_compact-requires
is_compact-requires c = search sized_of

pub holes_zero-requires : goal.holes_zero-requires
holes_zero-requires c = (search sized_of, search is_of)
