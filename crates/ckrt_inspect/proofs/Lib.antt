mod WritingLemmas
mod PushLemmas
mod CodeLemmas
mod WorkedLemmas
mod FaultLemmas
