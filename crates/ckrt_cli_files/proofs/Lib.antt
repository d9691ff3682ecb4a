mod LeftoverLemmas
mod TextLemmas
