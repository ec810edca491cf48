use Rattle.record_words.proofs.history_tags.Goals as goal
-- `record_words::history_tags`: the OR is at most 1 where each tag is.
-- Assumes nothing.
use Rattle.record_words.proofs.KnownTags.{histories_known}

pub returns : goal.returns
returns c = histories_known c.args.w.now _ _ _ _ _ c.whole_at.ensures c.whole_at-2.ensures c.whole_at-3.ensures c.whole_at-4.ensures c.whole_at-5.ensures
