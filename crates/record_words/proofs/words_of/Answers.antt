use Rattle.record_words.proofs.WordsWith.{words_with}
use Rattle.record_words.proofs.words_of.Goals as goal
-- `record_words::words_of`: each float as it is, each whole number as the float of these bits.
-- Assumes nothing.
use Rattle.record_words.specs.Words.{words_of, card_words, geometry_words, scaled_words, terminals_words, point_words, charges_words, histories_words, method_words, given_words, node_words, history_words}

pub returns : goal.returns
unfolding words_of card_words geometry_words scaled_words terminals_words point_words charges_words histories_words method_words given_words node_words history_words
returns c =
    λ i.
    words_with c.args.r
    (c.float_of.ensures i)
    (c.float_of-2.ensures i)
    (c.float_of-3.ensures i)
    (c.index_float.ensures i)
    (c.float_of-4.ensures i)
    (c.index_float-2.ensures i)
    (c.float_of-5.ensures i)
    (c.index_float-3.ensures i)
    (c.float_of-6.ensures i)
    (c.index_float-4.ensures i)
    (c.float_of-7.ensures i)
    (c.index_float-5.ensures i)
    (c.float_of-8.ensures i)
    (c.index_float-6.ensures i)
    (c.float_of-9.ensures i)
    (c.float_of-10.ensures i)
    (c.float_of-11.ensures i)
    (c.float_of-12.ensures i)
    (c.float_of-13.ensures i)
    (c.float_of-14.ensures i)
    (c.float_of-15.ensures i)
