-- Pairs by their numbers.
mod PairNumbers
