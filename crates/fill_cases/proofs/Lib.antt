mod Entered
