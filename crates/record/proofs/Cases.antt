-- The [P] cases of 01, section 5, hold of the definitions.
use mathlib.Core.Path.{refl}
use Rattle.error.specs.Demand.{outcome}
use Rattle.octets.specs.Number.{field, big_at}
use Rattle.volume.specs.Blocks.{is_nonreserved_block, is_nonreserved_run}
use Rattle.catalog.specs.Keys.{validate_owner_id}
use Rattle.catalog.specs.Times.{seconds_in_range, validate_timestamp_range, signed_number, validate_timestamp}
use Rattle.catalog.specs.Inode.{fields_in_range, fields_of_type, flags_and_reserved, target_check, validate_inode}
use Rattle.catalog.specs.Extent.{is_extent_range, validate_extent}
use Rattle.record.specs.Cleanup.{validate_orphan_marker, cleanup_record, validate_cleanup_key_value}
use Rattle.record.specs.Cases.{cases, CasesHold}

pub cases_hold : CasesHold
unfolding cases outcome field big_at is_nonreserved_block is_nonreserved_run validate_owner_id seconds_in_range validate_timestamp_range signed_number validate_timestamp fields_in_range fields_of_type flags_and_reserved target_check validate_inode is_extent_range validate_extent validate_orphan_marker cleanup_record validate_cleanup_key_value
cases_hold = refl
