-- The numbers that are written are the definition's words of the item.
use Rattle.record.proofs.RecordLaws.{record_written}
use Rattle.record.proofs.write_record.Goals as goal

pub returns : goal.returns
returns c =
    record_written c.args.item c.args.used _ c.args.out.now _ c.extra_numbers-numbers.ensures c.write_words.ensures
