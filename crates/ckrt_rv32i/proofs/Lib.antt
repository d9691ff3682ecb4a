pub mod TableLaws
pub mod AlignmentLaws
pub mod DecodingLaws
pub mod EffectLaws
pub mod TextLaws
pub mod ParsingLaws
pub mod BurstLaws
pub mod StoreLaws
