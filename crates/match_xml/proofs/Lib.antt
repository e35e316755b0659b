-- Reading gives these columns exactly if the lines of the text agree with them: `told_as`, `IsRefused-as`.
pub mod Reading
