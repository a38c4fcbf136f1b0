-- `write_record` meets its contract: the check finds all but the longest row.
use Rattle.records.specs.Answers.{record_bytes}
use Rattle.records.proofs.write_record.Goals as goal

pub returns-in-Got-clause-s_after : goal.returns-in-Got-clause-s_after
unfolding record_bytes
returns-in-Got-clause-s_after c = rw c.in-Got.is c.write_fields-in-Got.ensures.s_after
