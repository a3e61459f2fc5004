pub mod FlagLaws
pub mod TextLaws
pub mod AskLaws
pub mod StoreLaws
pub mod GroupLaws
pub mod RoundTrip
