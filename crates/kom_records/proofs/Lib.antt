mod Gathering
pub mod WordTokens
pub mod Spelled
pub mod Choices
pub mod Values
pub mod Bits
pub mod Calendar
pub mod Moments
pub mod LongArrays
pub mod SmallRecords
pub mod LongRecords
pub mod TextRecords
pub mod MemberRecords
pub mod ReplyLines
pub mod MessageLines
pub mod PrintedLines
pub mod PrintedRecords
