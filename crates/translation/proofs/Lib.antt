pub mod MeetingLaws
pub mod ListedFits
pub mod RecordCount
